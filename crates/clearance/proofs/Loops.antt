-- What the scene has of an entry.
use Rattle.clearance.specs.declared.contact.Moving.{Moving}
use Rattle.clearance.specs.Clearing.{moving}
use Rattle.clearance.specs.declared.traffic.Entry.{Entry}
use Rattle.clearance.specs.Traffic.{target_of}

abbrev pub moving_of : Entry → Moving
moving_of e = moving (target_of e)
