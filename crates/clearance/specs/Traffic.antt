-- The traffic as a list, and its checks (01, 'The answers by number': 'the order count of contacts,
-- own, contact …; a list goes entry by entry, contact then target').
use mathlib.Core.List.{Memᴰ}
use Rattle.std.specs.Prelude.{List, [], ◌∷◌, ◌++◌, map, ℕ, leb}
use Rattle.elementary.specs.declared.error.Refusal.TheVariants as Why
use Rattle.motion.specs.Check.{Check, check, contact_checks}
use Rattle.situation.specs.Arguments.{party_checks}
use Rattle.motion.specs.Held.{HeldVessel, HeldContact}
use Rattle.clearance.specs.declared.contact.Target.{Target}
use Rattle.motion.specs.Capacity.{max_contacts}
use Rattle.clearance.specs.declared.traffic.Entry.{Entry}

unfoldable pub target_of : Entry → Target
target_of e = record { contact = e.contact; vessel = e.target.motion }

unfoldable pub targets : List Entry → List Target
targets es = map target_of es

-- ---- entries whose figures are f64s, as all are that a caller can hand over
pub record HeldEntry (e : Entry) : Type 0 where
  pub contact : HeldContact e.contact
  pub vessel : HeldVessel e.target.motion

abbrev pub HeldEntries : List Entry → Type 0
HeldEntries es = (e : Entry) → Memᴰ e es → HeldEntry e

-- ---- the checks
abbrev pub count_checks : ℕ → List Check
count_checks count = check (leb count max_contacts) Why.TooManyContacts ∷ []

unfoldable pub entry_checks : Entry → List Check
entry_checks e = contact_checks e.contact ++ party_checks e.target

unfoldable pub contacts_checks : List Entry → List Check
contacts_checks [] = []
contacts_checks (e ∷ es) = entry_checks e ++ contacts_checks es
