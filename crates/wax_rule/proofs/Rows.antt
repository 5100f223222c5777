-- A token of a row is smaller than the row.
use Rattle.std.proofs.Common.{◌≡◌, ℕ, zero, suc, ◌-◌, ◌<◌, Bool, false, List, [], ◌∷◌, length, Some}
use Rattle.std.proofs.Common.{slice_get, arith, ap, subst}
use Rattle.wax_token.specs.{Reads.Span, Syntax.{Leaf, Tree, concatenation, tree_size, trees_size}}
use Rattle.wax_token.specs.Words.{trees}
use Rattle.wax_facts.specs.Situated.{ends_in, last_ends_in, starts_with_leaf}
use Rattle.wax_rule.specs.declared.rule.situated.End.{End}
use Rattle.wax_rule.specs.declared.rule.situated.End.TheVariants.{Start, Finish}
use Rattle.wax_rule.specs.inner.Queue.{IsOutermost, is_found_at}

-- the last token
pub at_size : {A : Type 0} (ts : List (Tree A)) (i : ℕ) (t : Tree A) → slice_get ts i ≡ Some t
    → tree_size t < trees_size (trees ts)
at_size [] i t e = absurd (cc)
at_size (u ∷ ts) zero t e = let f : u ≡ t = (cc) in let g : tree_size u ≡ tree_size t =
    ap tree_size f in omega (arith, g)
at_size (u ∷ ts) (suc i) t e = omega (arith, at_size ts i t e)

pub last_ends : {A : Type 0} (such : Leaf → Bool) (ts : List (Tree A)) (t : Tree A)
    → slice_get ts (length ts - 1) ≡ Some t → last_ends_in such (trees ts) ≡ ends_in such t
last_ends such [] t e = absurd (cc)
last_ends such (u ∷ []) t e = let f : u ≡ t = (cc) in ap (ends_in such) f
last_ends such (u ∷ v ∷ vs) t e =
    let n : length (u ∷ v ∷ vs) - 1 ≡ suc (length (v ∷ vs) - 1) = omega arith in
    let f : slice_get (u ∷ v ∷ vs) (suc (length (v ∷ vs) - 1)) ≡ Some t =
    subst (λ k. slice_get (u ∷ v ∷ vs) k ≡ Some t) n e in
    last_ends such (v ∷ vs) t f

-- the token at an end is smaller than the row, and decides what is found there
pub outermost_size : (end : End) (ts : List (Tree Span)) (t : Tree Span) → IsOutermost end ts t
    → tree_size t < trees_size (trees ts)
outermost_size Start ts t e = at_size ts 0 t e
outermost_size Finish ts t e = at_size ts (length ts - 1) t e

pub outermost_found : (end : End) (such : Leaf → Bool) (a : Span) (ts : List (Tree Span)) (t : Tree Span)
    → IsOutermost end ts t →
    is_found_at end such (concatenation a (trees ts)) ≡ is_found_at end such t
outermost_found Start such a [] t e = absurd (cc)
outermost_found Start such a (u ∷ ts) t e = let f : u ≡ t = (cc) in ap (starts_with_leaf such) f
outermost_found Finish such a ts t e = last_ends such ts t e

pub none_found : (end : End) (such : Leaf → Bool) (a : Span) (ts : List (Tree Span)) → ts ≡ []
    → is_found_at end such (concatenation a (trees ts)) ≡ false
none_found Start such a ts e = ap (λ z. is_found_at Start such (concatenation a (trees z))) e
none_found Finish such a ts e = ap (λ z. is_found_at Finish such (concatenation a (trees z))) e
