-- No part of the owner is without a token.
use Rattle.std.proofs.Common.{Bool, None, Option, Some, false, suc, true, zero, ℕ}
use Rattle.wax_token.specs.Syntax.{Tree, Trees, alternation, concatenation, leaf, more, none, repetition}
use Rattle.wax_token.specs.Words.{members}
use Rattle.wax_facts.specs.{Orderly.{Full, FullEach}, Prefix.opened}
use Rattle.wax_facts.specs.Rest.{after, begins_with_tree, entered, inner_cut, inner_last, or_here}

pub members_full : {A : Type 0} (t : Tree A) → Full t → FullEach (members t)
members_full (leaf a l) w = (tt, tt)
members_full (alternation a ts) w = (w, tt)
members_full (concatenation a ts) w = w.1
members_full (repetition a t low high) w = (w, tt)

pub after_full : {A : Type 0} (n : ℕ) (ts : Trees A) → FullEach ts → FullEach (after n ts)
after_full zero ts w = w
after_full (suc n) none w = tt
after_full (suc n) (more t ts) w = after_full n ts w.1

abbrev FullOwner : {A : Type 0} → Option (Tree A × ℕ) → Type 0
FullOwner None = Unit {0}
FullOwner (Some o) = Full o.0

pub full_here : {A : Type 0} (o : Option (Tree A × ℕ)) (t : Tree A) (n : ℕ) → Full t → FullOwner o
    → Full (or_here (t, n) o).0
full_here None t n w h = w
full_here (Some o) t n w h = h

full_entered : {A : Type 0} (n : ℕ) (b : Bool) (o : Tree A × ℕ) → Full o.0 → FullOwner (entered n b o)
full_entered zero false o w = tt
full_entered zero true o w = w
full_entered (suc n) b o w = w

mutual
  pub inner_full : {A : Type 0} (t : Tree A) → Full t → (n : ℕ) → FullOwner (inner_cut t n)
  inner_full (leaf a l) w n = tt
  inner_full (alternation a none) w n = tt
  inner_full (alternation a (more t none)) w n = full_entered n (begins_with_tree (opened t))
      (or_here (t, n) (inner_cut t n)) (full_here (inner_cut t n) t n w.1.0 (inner_full t w.1.0 n))
  inner_full (alternation a (more t (more u us))) w n = tt
  inner_full (concatenation a ts) w n = last_full ts w.1 n
  inner_full (repetition a t zero high) w n = tt
  inner_full (repetition a t (suc zero) None) w n = tt
  inner_full (repetition a t (suc zero) (Some zero)) w n = tt
  inner_full (repetition a t (suc zero) (Some (suc zero))) w n = full_entered n (begins_with_tree (opened t))
      (or_here (t, n) (inner_cut t n)) (full_here (inner_cut t n) t n w (inner_full t w n))
  inner_full (repetition a t (suc zero) (Some (suc (suc m)))) w n = tt
  inner_full (repetition a t (suc (suc low)) high) w n = tt

  last_full : {A : Type 0} (ts : Trees A) → FullEach ts → (n : ℕ) → FullOwner (inner_last ts n)
  last_full none w n = tt
  last_full (more t none) w n = inner_full t w.0 n
  last_full (more t (more u us)) w zero = tt
  last_full (more t (more u us)) w (suc n) = last_full (more u us) w.1 n
