-- The words of a sheet by their place, and what the loop over them owes.
use mathlib.Core.Path.{◌≡◌, refl, sym, ap, ap₂, ◌∙◌}
use mathlib.Core.Bool.{Bool, true, false, ◌&&◌, cond}
use mathlib.Core.List.{List, [], ◌∷◌}
use Prim.Native.Nat.{ℕ, zero, suc, ◌+◌, ◌-◌, ◌/◌, ◌<◌}
use native.Mathlib.Omega.{arith}
use lib.Dec.{eqb}
use lib.ListN.{length, take, drop, length-take, length-drop}
use lib.Seq.{take_all}
use Rattle.std.proofs.lemmas.List.{length-map, take-map, drop-map}
use borrow.Author.Tests.{ne_eqb, lt-ltb}
use mathlib.Core.List.{map}
use Rattle.std.specs.Int.{w32, from_le_bytes}
use Rattle.std.specs.Simd.{first_chunks}
use Rattle.std.specs.Prelude.{Some, None, MatchOption}
use Rattle.std.specs.Bool.{then_some}
use Rattle.std.specs.Option.{option_eq}
use Rattle.std.specs.Iterator.{Yields, TryFoldTurn, TryFoldsItems}
use Rattle.std.specs.List.{FoldsTo}
use Rattle.std.specs.Slice.Iter.{iter_steps, iter_rest}
use Rattle.std.specs.declared.option.Option.{Option}
use Rattle.std.specs.declared.ops.ControlFlow.{ControlFlow}
use Rattle.std.specs.ControlFlow.{continue_value}
use Rattle.std.specs.declared.ops.ControlFlow.TheVariants.{Continue, Break}
use Rattle.std.proofs.Common.{Iter}
use denote.Param.Members.{Mut, Called}
use denote.Ref.{Bor}
use Rattle.laws.proofs.Bools.{and-false}
use Rattle.sheet_record.specs.Word.{words, word_of, kind, next_kind, in_order, header_length, ordered}

-- ---- the words by their place
pub count : (s : List ℕ) → length (words s) ≡ length s / 4
unfolding words
count [] = refl
count (a ∷ []) = refl
count (a ∷ b ∷ []) = refl
count (a ∷ b ∷ c ∷ []) = refl
count (a ∷ b ∷ c ∷ d ∷ s) = ap suc (count s) ∙ more (length s)
  where
    more : (n : ℕ) → suc (n / 4) ≡ suc (suc (suc (suc n))) / 4
    more n = omega arith

-- ---- four bytes at a time
little : (a b c d : ℕ) → from_le_bytes w32 (a ∷ b ∷ c ∷ d ∷ []) ≡ word_of a b c d
little a b c d = omega arith

pub chunked : (s : List ℕ) (k : ℕ) → k ≡ length s / 4 → map (from_le_bytes w32) (first_chunks 4 k s) ≡ words s
unfolding words
chunked s zero h = none s (sym h)
  where
    none : (s : List ℕ) → length s / 4 ≡ 0 → [] ≡ words s
    none [] h = refl
    none (a ∷ []) h = refl
    none (a ∷ b ∷ []) h = refl
    none (a ∷ b ∷ c ∷ []) h = refl
    none (a ∷ b ∷ c ∷ d ∷ s) h = absurd (never (length s) h)
      where
        never : (n : ℕ) → suc (suc (suc (suc n))) / 4 ≡ 0 → ⊥
        never n h = omega arith
chunked (a ∷ b ∷ c ∷ d ∷ s) (suc k) h = ap₂ ◌∷◌ (little a b c d) (chunked s k (less k (length s) h))
  where
    less : (k n : ℕ) → suc k ≡ suc (suc (suc (suc n))) / 4 → k ≡ n / 4
    less k n h = omega arith
chunked [] (suc k) h = absurd (omega (arith, h))
chunked (a ∷ []) (suc k) h = absurd (omega (arith, h))
chunked (a ∷ b ∷ []) (suc k) h = absurd (omega (arith, h))
chunked (a ∷ b ∷ c ∷ []) (suc k) h = absurd (omega (arith, h))

-- ---- the loop over words, each as its four bytes
abbrev pub number_in : List ℕ → ℕ
number_in = from_le_bytes w32

one_more : (k : ℕ) (w : List ℕ) (ws : List (List ℕ)) → in_order k (map number_in (w ∷ ws)) ≡ eqb (kind (number_in w)) k && in_order (next_kind k) (map number_in ws)
unfolding in_order
one_more k w ws = refl

no_more : (k : ℕ) (ws : List (List ℕ)) → length ws ≡ 0 → in_order k (map number_in ws) ≡ eqb k 9
unfolding in_order
no_more k [] e = refl
no_more k (w ∷ ws) e = absurd (omega (arith, e))

kept : (b : Bool) (k n : ℕ) → then_some b k ≡ Some n → (b ≡ true) × (k ≡ n)
kept true k n e = (refl, cc)
kept false k n e = absurd (cc)

broken : (b : Bool) (k : ℕ) → then_some b k ≡ None → b ≡ false
broken true k e = absurd (cc)
broken false k e = refl

-- f is handed the kind that is due and a word, and hands on the kind that follows where the word is of that kind
abbrev branches : {E : Type 0} → Option ℕ → ControlFlow E ℕ → Type 0
branches v c = v ≡ continue_value c

module _ {F : Type 0} (E : Type 0) (g : Mut F (ℕ × (Bor (List ℕ) × Unit {0})) (Option ℕ))
    (gives : (f : F) (k : ℕ) (w : Bor (List ℕ)) (v : Option ℕ) (h : F) → Called g f (k, (w, tt)) v h → v ≡ then_some (eqb (kind (number_in w.now)) k) (next_kind k)) where
  seen : (s : Iter (List ℕ)) (xs : List (Bor (List ℕ))) (t : Iter (List ℕ)) (f h : F) (k n : ℕ) → Yields iter_steps s xs t → FoldsTo {P = F × ℕ} (TryFoldTurn g (branches {E = E})) (f, k) xs (h, n) → in_order k (map number_in (iter_rest s)) ≡ in_order n (map number_in (iter_rest t))
  seen s [] t f h k n y e = ap₂ (λ s n. in_order n (map number_in (iter_rest s))) y (ap (λ (p : F × ℕ). p.1) e)
  seen s (x ∷ xs) t f h k n y e =
      let v = kept (eqb (kind (number_in x.now)) k) (next_kind k) e.0.1 (sym (gives f k x e.1.0 e.0.0 e.1.1) ∙ e.1.2) in
      ap (λ l. in_order k (map number_in l)) y.1 ∙ one_more k x.now (iter_rest y.0) ∙ ap (λ b. b && in_order (next_kind k) (map number_in (iter_rest y.0))) v.0 ∙ ap (λ j. in_order j (map number_in (iter_rest y.0))) v.1 ∙ seen y.0 xs t e.0.0 h e.0.1 n y.2 e.2

  pub folded : (s : Iter (List ℕ)) (f : F) (k : ℕ) (r : Option ℕ) (u : Iter (List ℕ)) → TryFoldsItems iter_steps g (branches {E = E}) (λ e r. r ≡ None) s f k r u → option_eq eqb r (Some 9) ≡ in_order k (map number_in (iter_rest s))
  folded s f k r u h = sym (seen s h.0 h.4.0 f h.2 k h.3 h.4.1 h.5 ∙ go h.1 h.4.2 h.6)
    where
      go : (o : Option (Bor (List ℕ))) → iter_steps h.4.0 o u → MatchOption o (branches {E = E} r (Continue h.3)) (λ x. (v : Option ℕ) × (i : F) × (e : E) × Called g h.2 (h.3, (x, tt)) v i × branches {E = E} v (Break e) × (r ≡ None)) → in_order h.3 (map number_in (iter_rest h.4.0)) ≡ option_eq eqb r (Some 9)
      go None t m = no_more h.3 (iter_rest h.4.0) t.0 ∙ ap (λ r. option_eq eqb r (Some 9)) (sym m)
      go (Some x) t m =
          ap (λ l. in_order h.3 (map number_in l)) t ∙ one_more h.3 x.now (iter_rest u) ∙ ap (λ b. b && in_order (next_kind h.3) (map number_in (iter_rest u))) (broken (eqb (kind (number_in x.now)) h.3) (next_kind h.3) (sym (gives h.2 h.3 x m.0 m.1 m.3) ∙ m.4))
          ∙ ap (λ r. option_eq eqb r (Some 9)) (sym m.5)

-- ---- the header, then the contacts
pub short : (k : ℕ) (ws : List ℕ) → k + length ws < 9 → in_order k ws ≡ false
unfolding in_order
short k [] h = ne_eqb k 9 (λ e. omega (arith, e))
short k (w ∷ ws) h = ap (λ n. eqb (kind w) k && in_order n ws) next ∙ ap (λ b. eqb (kind w) k && b) (short (k + 1) ws (omega (arith, h))) ∙ and-false (eqb (kind w) k)
  where
    next : next_kind k ≡ k + 1
    next = ap (λ b. cond b (k + 1) 9) (lt-ltb k 14 (omega (arith, h)))

module _ (ws : List ℕ) where
  too_few : length ws < 9 → in_order 0 (take 9 ws) ≡ false
  too_few h = short 0 (take 9 ws) (omega (arith, h, length-take 9 ws))

-- ---- the header, then the contacts, of words that stand as their four bytes
module _ (ws : List ℕ) (bs : List (List ℕ)) (e : map number_in bs ≡ ws) where
  as_many : length bs ≡ length ws
  as_many = sym (length-map bs number_in) ∙ ap length e

  pub no_header : length bs < 9 → false ≡ ordered ws
  unfolding ordered
  no_header h = ap (λ b. b && in_order 9 (drop (header_length ws) ws)) (sym (too_few ws (omega (arith, h, as_many))))

  pub headed : (b : Bool) → b ≡ in_order 0 (map number_in (take 9 bs)) → b ≡ true → (first : ℕ) → first ≡ header_length ws → (r : Bool) → r ≡ in_order 9 (map number_in (take (length bs - first) (drop first bs))) → r ≡ ordered ws
  unfolding ordered
  headed b eb h first ef r er =
      er ∙ ap (λ l. in_order 9 (map number_in l)) (take_all (length bs - first) (drop first bs) (omega (arith, length-drop first bs))) ∙ ap (in_order 9) (sym (drop-map number_in first bs) ∙ ap (drop first) e) ∙ ap (λ j. in_order 9 (drop j ws)) ef
      ∙ ap (λ b. b && in_order 9 (drop (header_length ws) ws)) (sym h ∙ eb ∙ ap (in_order 0) (sym (take-map number_in 9 bs) ∙ ap (take 9) e))

  pub not_headed : (b : Bool) → b ≡ in_order 0 (map number_in (take 9 bs)) → b ≡ false → b ≡ ordered ws
  unfolding ordered
  not_headed b eb h = h ∙ ap (λ b. b && in_order 9 (drop (header_length ws) ws)) (sym h ∙ eb ∙ ap (in_order 0) (sym (take-map number_in 9 bs) ∙ ap (take 9) e))
