use mathlib.Core.List.Memᴰ
use Rattle.std.specs.Prelude.{OnOk}
use mathlib.Core.Path.{refl, sym, subst, ◌∙◌}
use native.Mathlib.Omega.{arith}
use Rattle.motion.proofs.ArgumentCode.{handed_on}
use Rattle.motion.proofs.Lists.{passed, stopped, ended}
use Rattle.clearance.specs.Traffic.{HeldEntries, entry_checks, contacts_checks}
use Rattle.clearance.proofs.Held.{first_more, all_held}
use Rattle.clearance.proofs.traffic.check_contacts.Goals as goal

pub loop-e-init : goal.loop-e-init
loop-e-init c = (λ e m. absurd (Memᴰ.not-nil m), refl)

pub loop-e-preserved : goal.loop-e-preserved
unfolding contacts_checks
loop-e-preserved c = (first_more c.args.t.now c.loop-e.e-index _ c.loop-e-test.true c.loop-e.invariant.0 c.check_entry.ensures.held, passed entry_checks contacts_checks (λ e es. refl) c.args.t.now c.loop-e.e-index _ c.loop-e-test.true (c.in_ok-check_entry.ensures.checked) ∙ c.loop-e.invariant.1)

pub returns-in_err-check_entry : goal.returns-in_err-check_entry
unfolding contacts_checks
returns-in_err-check_entry c = let e = handed_on _ _ c.from_residual.ensures.1 in record {
  held = subst (λ r. OnOk r (HeldEntries c.args.t.now)) (sym e) tt;
  checked = e ∙ stopped entry_checks contacts_checks (λ e es. refl) c.args.t.now c.loop-e.e-index _ _ c.loop-e-test.true c.in_err-check_entry.ensures.checked ∙ c.loop-e.invariant.1;
}

pub returns : goal.returns
unfolding contacts_checks
returns c = record { held = all_held c.args.t.now c.loop-e.e-index (omega (arith, c.loop-e-test.false, c.loop-e.auto.e-index-end)) c.loop-e.invariant.0; checked = ended entry_checks contacts_checks (λ e es. refl) c.args.t.now c.loop-e.e-index (omega (arith, c.loop-e-test.false, c.loop-e.auto.e-index-end)) refl ∙ c.loop-e.invariant.1 }
