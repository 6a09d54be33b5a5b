-- What the checks of a sheet owe: the check of a category, the limits, and the sheet's parts.
use Rattle.std.specs.Prelude.{◌≡◌, refl, ℕ, List, [], ◌∷◌, ◌++◌, map, Ok, Err}
use mathlib.Core.Path.{sym, ◌∙◌}
use lib.Dec.{leb}
use Rattle.std.specs.declared.result.Result.{Result}
use Rattle.elementary.specs.declared.error.Refusal.{Refusal}
use Rattle.elementary.specs.declared.error.Refusal.TheVariants as Why
use Rattle.motion.specs.Check.{Check, check, checked}
use Rattle.sheet_record.specs.Word.{words}
use Rattle.sheet_record.specs.declared.Header.{Header}
use Rattle.sheet_record.specs.declared.Row.{Row}
use Rattle.sheet_record.specs.Record.{header_of, rows_of, readable}
use Rattle.sheet.specs.Values.{entry_of, scaled}
use Rattle.manoeuvre.specs.declared.constraints.ManoeuvreConstraints.{ManoeuvreConstraints}
use Rattle.manoeuvre.specs.Constraints.{alteration_checks, constraints_if_accepted, constraints_answer}
use Rattle.assessment.specs.declared.policy.CpaPolicy.{CpaPolicy}
use Rattle.assessment.specs.Policy.{policy_if_accepted, policy_answer}
use Rattle.sheet.specs.Limits.{constraints_of, policy_of}
use Rattle.sheet.specs.Sheet.{limit_checks, code_checks, value_checks, sheet_verdict}

-- ---- the category of a contact
abbrev pub code_check : Row → List Check
code_check r = check (leb r.category 7) Why.UnknownCode ∷ []

-- ---- what a sheet asks for: made where its checks accept, and refused by them
module _ {C : Type 0} (by : Result (Unit {0}) Refusal → C → Result C Refusal) (ok : (u : Unit {0}) (c : C) → by (Ok u) c ≡ Ok c) (err : (w : Refusal) (c : C) → by (Err w) c ≡ Err w) where
  was_accepted : (v : Result (Unit {0}) Refusal) (c d : C) → Ok d ≡ by v c → Ok tt ≡ v
  was_accepted (Ok u) c d e = refl
  was_accepted (Err w) c d e = absurd (let h = err w c in cc)

  was_refused : (v : Result (Unit {0}) Refusal) (c : C) (w : Refusal) → Err w ≡ by v c → Err w ≡ v
  was_refused (Ok u) c w e = absurd (let h = ok u c in cc)
  was_refused (Err u) c w e = let h = err u c in cc

module _ (h : Header) where
  pub turn_accepted : (c : ManoeuvreConstraints) → Ok c ≡ constraints_of h → Ok tt ≡ checked (alteration_checks (record { 0 = scaled h.least }) (record { 0 = scaled h.most }))
  unfolding constraints_of constraints_answer
  turn_accepted c e = was_accepted constraints_if_accepted (λ u c. refl) (λ w c. refl) _ _ c e

  pub turn_refused : (w : Refusal) → Err w ≡ constraints_of h → Err w ≡ checked (alteration_checks (record { 0 = scaled h.least }) (record { 0 = scaled h.most }))
  unfolding constraints_of constraints_answer
  turn_refused w e = was_refused constraints_if_accepted (λ u c. refl) (λ w c. refl) _ _ w e

  pub limits_accepted : (p : CpaPolicy) → Ok p ≡ policy_of h → Ok tt ≡ checked (limit_checks h)
  unfolding policy_of policy_answer
  limits_accepted p e = was_accepted policy_if_accepted (λ u c. refl) (λ w c. refl) _ _ p e

  pub limits_refused : (w : Refusal) → Err w ≡ policy_of h → Err w ≡ checked (limit_checks h)
  unfolding policy_of policy_answer
  limits_refused w e = was_refused policy_if_accepted (λ u c. refl) (λ w c. refl) _ _ w e

-- ---- the sheet
pub unreadable : (s : List ℕ) (why : Refusal) → Err why ≡ readable s → Err why ≡ sheet_verdict s
unfolding sheet_verdict
unreadable s why e = rw (sym e) refl

pub readable_as : (s : List ℕ) (h : Header) (rs : List Row) (v : Result (Unit {0}) Refusal) → Ok tt ≡ readable s → h ≡ header_of (words s) → rs ≡ rows_of (words s) → v ≡ checked (code_checks h rs ++ value_checks h (map entry_of rs)) → v ≡ sheet_verdict s
unfolding sheet_verdict
readable_as s h rs v e eh er ev = ev ∙ rw (eh, er, sym e) refl
