-- What the tries owe: the first item of a range or of a slice at which a function answers decides.
use Rattle.std.specs.Prelude.{true, None, Some, MatchOption, IsTrue, slice_index_or}
use Rattle.std.specs.Option.{option_map, option_or, IfSome, IsSomeAnd}
use Rattle.std.specs.Fn.{Called}
use Rattle.std.specs.Iterator.Runs.{Run, SomeRun, AllItemsGive, IsFirstToGive, CallKeepsClosure}
use Rattle.std.proofs.iter.Yields.{nat_range_steps}
use Rattle.std.proofs.iter.runs.Sources.{range_runs, iter_runs}
use Rattle.std.specs.Slice.Iter.{iter_steps, iter_rest}
use Rattle.std.specs.declared.slice.Iter.{Iter}
use denote.Ref.{Bor}
use denote.Param.Members.{Mut}
use mathlib.Core.Path.{◌≡◌, refl, sym, ap, ◌∙◌, subst}
use mathlib.Core.List.{List, ◌∷◌}
use Prim.Native.Nat.{ℕ, zero, suc, ◌+◌, ◌-◌, ◌≤◌, ◌<◌}
use native.Mathlib.Nat.{lt_trans}
use native.Mathlib.Numerals.{unary_clauses}
use native.Mathlib.Omega.{arith}
use lib.ListN.{length, drop}
use lib.Seq.{drop-length, drop-cons}
use lib.Ieee.{Float}
use Rattle.laws.specs.First.{first}
use Rattle.std.specs.declared.option.Option.{Option}
use Rattle.manoeuvre.specs.Trials.{trial, trials}
use Rattle.manoeuvre.proofs.Listed.{next}

-- ---- the first of n items at which a function answers
module _ {X B : Type 0} (h : X → Option B) (item : ℕ → X) (n : ℕ) where
  -- no item has an answer, or the first that has one has this
  abbrev pub First : Option B → Type 0
  First r = MatchOption r ((k : ℕ) → k < n → None ≡ h (item k)) (λ y. (i : ℕ) × (i < n) × (Some y ≡ h (item i)) × ((k : ℕ) → k < i → None ≡ h (item k)))

  -- a run of an iterator that reads the items, by v
  module _ {S A F : Type 0} {steps : S → Option A → S → Type 0} (v : A → X) (g : Mut F (A × Unit {0}) (Option B)) (f : F)
      (is : (a : A) (r : Option B) (q : F) → Called g f (a, tt) r q → (q ≡ f) × (r ≡ h (v a)))
      (p : Run steps) (few : p.len ≤ n) (all : p.whole ≡ true → p.len ≡ n) (at : (k : ℕ) → k < p.len → option_map v (p.at k) ≡ Some (item k)) where
    keeps : CallKeepsClosure g f
    keeps a r q c = (is a.0 r q c).0

    there : (r : Option B) (o : Option A) (x : X) → option_map v o ≡ Some x → IfSome o (λ a. Called g f (a, tt) r f) → r ≡ h x
    there r None x e c = cc e
    there r (Some a) x e c = subst (λ o. IfSome o (λ x. r ≡ h x)) e (is a r f c).1

    here : (r : Option B) (o : Option A) (x : X) → option_map v o ≡ Some x → IsSomeAnd o (λ a. Called g f (a, tt) r f) → r ≡ h x
    here r None x e c = absurd c
    here r (Some a) x e c = there r (Some a) x e c

    pub first_of : (r : Option B)
        → MatchOption r (IsTrue p.whole × AllItemsGive p g f None) (λ y. (i : ℕ) × (i < p.len) × (p.len ≡ i + 1) × IsFirstToGive p g f (Some y) None i) → First r
    first_of None w = λ k l. there None (p.at k) (item k) (at k (subst (λ m. k < m) (sym (all w.0)) l)) (w.1 keeps k)
    first_of (Some y) w =
        let first = w.3 keeps in
        (w.0, omega (arith, w.1, few), here (Some y) (p.at w.0) (item w.0) (at w.0 w.1) first.0, λ k l. here None (p.at k) (item k) (at k (lt_trans l w.1)) (first.1 k l))

-- ---- a range of numbers, and a slice
abbrev pub Found : {S A B F : Type 0} (steps : S → Option A → S → Type 0) → S → Mut F (A × Unit {0}) (Option B) → F → Option B → Type 0
Found steps s g f r = SomeRun steps s (λ p. MatchOption r (IsTrue p.whole × AllItemsGive p g f None) (λ y. (i : ℕ) × (i < p.len) × (p.len ≡ i + 1) × IsFirstToGive p g f (Some y) None i))

pub first_of_range : {B F : Type 0} (h : ℕ → Option B) (n : ℕ) (g : Mut F (ℕ × Unit {0}) (Option B)) (f : F)
    → ((k : ℕ) (r : Option B) (q : F) → Called g f (k, tt) r q → (q ≡ f) × (r ≡ h k)) → (r : Option B)
    → Found nat_range_steps (record { start = 0; end = n }) g f r → First h (λ k. k) n r
first_of_range h n g f is r w =
    let p = w.0 in
    let counts = range_runs p p.seen in
    let few : p.len ≤ n - 0 = subst (λ m. p.len ≤ m) (ap (λ s. s.end - s.start) w.1) counts.0 in
    first_of h (λ k. k) n (λ k. k) g f is p
    (omega (arith, few))
    (λ e. simp unary_clauses at (counts.1 e ∙ ap (λ s. s.end - s.start) w.1))
    (λ k l. counts.3 k l ∙ ap (λ s. Some (s.start + k)) w.1 ∙ ap Some (zero_add k)) r w.2
  where
    zero_add : (k : ℕ) → 0 + k ≡ k
    zero_add k = omega arith

pub first_of_slice : {X B F : Type 0} (h : X → Option B) (xs : List X) (d : X) (g : Mut F (Bor X × Unit {0}) (Option B)) (f : F)
    → ((x : Bor X) (r : Option B) (q : F) → Called g f (x, tt) r q → (q ≡ f) × (r ≡ h x.now)) → (s : Iter X) → iter_rest s ≡ xs → (r : Option B)
    → Found iter_steps s g f r → First h (λ k. slice_index_or xs k d) (length xs) r
first_of_slice h xs d g f is s rest r w =
    let p = w.0 in
    let reads = iter_runs p p.seen in
    let all : iter_rest p.from ≡ xs = ap iter_rest w.1 ∙ rest in
    first_of h (λ k. slice_index_or xs k d) (length xs) (λ x. x.now) g f is p
    (subst (λ l. p.len ≤ length l) all reads.0) (λ e. reads.1 e ∙ ap length all)
    (λ k l. reads.2 k d l ∙ ap (λ l. Some (slice_index_or l k d)) all) r w.2

-- ---- the items of a list, in their order
module _ {X B : Type 0} (h : X → Option B) (xs : List X) (item : ℕ → X) (next : (k : ℕ) → k < length xs → drop k xs ≡ item k ∷ drop (suc k) xs) where
  -- what the items from k on come to
  abbrev left : ℕ → Option B
  left k = first h (drop k xs)

  turn : (k : ℕ) → k < length xs → left k ≡ option_or (h (item k)) (left (suc k))
  unfolding first
  turn k l = ap (first h) (next k l)

  skip_all : (i : ℕ) → ((k : ℕ) → k < i → (k < length xs) × (None ≡ h (item k))) → left 0 ≡ left i
  skip_all zero m = refl
  skip_all (suc i) m = skip_all i (λ k l. m k (omega arith)) ∙ (let o = m i (omega arith) in turn i o.0 ∙ ap (λ c. option_or c (left (suc i))) (sym o.1))

  pub first_is : (n : ℕ) → n ≡ length xs → (r : Option B) → First h item n r → r ≡ first h xs
  unfolding first
  first_is n e None m = sym (skip_all n (λ k l. (subst (λ n. k < n) e l, m k l)) ∙ ap (first h) (ap (λ k. drop k xs) e ∙ drop-length xs))
  first_is n e (Some y) m =
      let below : m.0 < length xs = subst (λ n. m.0 < n) e m.1 in
      sym (skip_all m.0 (λ k l. (lt_trans l below, m.3 k l)) ∙ turn m.0 below ∙ ap (λ c. option_or c (left (suc m.0))) (sym m.2))

-- a slice's first, and the first of the trial list by its numbers
pub slice_first : {X B F : Type 0} (h : X → Option B) (xs : List X) (d : X) (g : Mut F (Bor X × Unit {0}) (Option B)) (f : F)
    → ((x : Bor X) (r : Option B) (q : F) → Called g f (x, tt) r q → (q ≡ f) × (r ≡ h x.now)) → (s : Iter X) → iter_rest s ≡ xs → (r : Option B)
    → Found iter_steps s g f r → r ≡ first h xs
slice_first h xs d g f is s rest r w =
    first_is h xs (λ k. slice_index_or xs k d) (λ k l. drop-cons xs k d l) (length xs) refl r (first_of_slice h xs d g f is s rest r w)

pub trials_first : {B F : Type 0} (h : Float → Option B) (least most : Float) (n : ℕ) → n ≡ length (trials least most) → (g : Mut F (ℕ × Unit {0}) (Option B)) (f : F)
    → ((k : ℕ) (r : Option B) (q : F) → Called g f (k, tt) r q → (q ≡ f) × (r ≡ h (trial least most k))) → (r : Option B)
    → Found nat_range_steps (record { start = 0; end = n }) g f r → r ≡ first h (trials least most)
trials_first h least most n e g f is r w =
    first_is h (trials least most) (trial least most) (next least most) n e r (first_of_range (λ k. h (trial least most k)) n g f is r w)
