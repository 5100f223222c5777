-- The rest of an orderly glob is orderly.
use Rattle.std.proofs.Common.{Bool, None, Option, Some, false, refl, subst, suc, true, zero, ℕ}
use Rattle.wax_token.specs.Syntax.{Tree, Trees, alternation, class, concatenation, leaf, literal, more, none}
use Rattle.wax_token.specs.{Syntax.{one, repetition, separator, tree, zero_or_more}, Words.members}
use Rattle.wax_facts.specs.{Orderly.{IsSome, Orderly, OrderlyEach}, Prefix.opened}
use Rattle.wax_facts.specs.Rest.{after, begins_with_tree, entered, inner_cut, inner_last, or_here, owner}
use Rattle.wax_facts.specs.Rest.{rest, unrooted}
use Rattle.wax_facts.proofs.{Owners.owner_opened, WrittenRest.not_none}

abbrev OrderlyOwner : {A : Type 0} → Option (Tree A × ℕ) → Type 0
OrderlyOwner None = Unit {0}
OrderlyOwner (Some o) = Orderly o.0

here : {A : Type 0} (o : Option (Tree A × ℕ)) (t : Tree A) (n : ℕ) → Orderly t → OrderlyOwner o
    → Orderly (or_here (t, n) o).0
here None t n w h = w
here (Some o) t n w h = h

into : {A : Type 0} (n : ℕ) (b : Bool) (o : Tree A × ℕ) → Orderly o.0 → OrderlyOwner (entered n b o)
into zero false o w = tt
into zero true o w = w
into (suc n) b o w = w

only_branch : {A : Type 0} (a : A) (t : Tree A) → Orderly (alternation a (more t none)) → Orderly t
only_branch a t o = (o.0.1.0, o.1.0, o.2.0, o.3.0)

mutual
  inner_orderly : {A : Type 0} (t : Tree A) → Orderly t → (n : ℕ) → OrderlyOwner (inner_cut t n)
  inner_orderly (leaf a l) o n = tt
  inner_orderly (alternation a none) o n = tt
  inner_orderly (alternation a (more t none)) o n =
      into n (begins_with_tree (opened t)) (or_here (t, n) (inner_cut t n))
      (here (inner_cut t n) t n (only_branch a t o) (inner_orderly t (only_branch a t o) n))
  inner_orderly (alternation a (more t (more u us))) o n = tt
  inner_orderly (concatenation a ts) o n = last_orderly ts (o.0.1, o.1, o.2, o.3) n
  inner_orderly (repetition a t zero high) o n = tt
  inner_orderly (repetition a t (suc zero) None) o n = tt
  inner_orderly (repetition a t (suc zero) (Some zero)) o n = tt
  inner_orderly (repetition a t (suc zero) (Some (suc zero))) o n =
      into n (begins_with_tree (opened t)) (or_here (t, n) (inner_cut t n))
      (here (inner_cut t n) t n (o.0, o.1, o.2, o.3.1) (inner_orderly t (o.0, o.1, o.2, o.3.1) n))
  inner_orderly (repetition a t (suc zero) (Some (suc (suc m)))) o n = tt
  inner_orderly (repetition a t (suc (suc low)) high) o n = tt

  last_orderly : {A : Type 0} (ts : Trees A) → OrderlyEach ts → (n : ℕ) → OrderlyOwner (inner_last ts n)
  last_orderly none o n = tt
  last_orderly (more t none) o n = inner_orderly t (o.0.0, o.1.1, o.2.0, o.3.0) n
  last_orderly (more t (more u us)) o zero = tt
  last_orderly (more t (more u us)) o (suc n) = last_orderly (more u us) (o.0.1, o.1.2, o.2.1, o.3.2) n

members_orderly : {A : Type 0} (t : Tree A) → Orderly t → OrderlyEach (members t)
members_orderly (leaf a l) o = ((o.0, tt), (refl, o.1, tt), (o.2, tt), (o.3, (λ e. refl), tt))
members_orderly (alternation a ts) o = ((o.0, tt), (refl, o.1, tt), (o.2, tt), (o.3, (λ e. refl), tt))
members_orderly (concatenation a ts) o = (o.0.1, o.1, o.2, o.3)
members_orderly (repetition a t low high) o = ((o.0, tt), (refl, o.1, tt), (o.2, tt), (o.3, (λ e. refl), tt))

after_orderly : {A : Type 0} (n : ℕ) (ts : Trees A) → OrderlyEach ts → OrderlyEach (after n ts)
after_orderly zero ts o = o
after_orderly (suc n) none o = o
after_orderly (suc n) (more t ts) o = after_orderly n ts (o.0.1, o.1.2, o.2.1, o.3.2)

unrooted_orderly : {A : Type 0} (ts : Trees A) → OrderlyEach ts → OrderlyEach (unrooted ts)
unrooted_orderly none o = o
unrooted_orderly (more (leaf a (literal i t)) ts) o = o
unrooted_orderly (more (leaf a (class n xs)) ts) o = o
unrooted_orderly (more (leaf a separator) ts) o = o
unrooted_orderly (more (leaf a one) ts) o = o
unrooted_orderly (more (leaf a (zero_or_more v)) ts) o = o
unrooted_orderly (more (leaf a (tree rooted)) ts) o =
    ((tt, o.0.1), (refl, tt, o.1.2), (tt, o.2.1), (tt, o.3.1, o.3.2))
unrooted_orderly (more (alternation a us) ts) o = o
unrooted_orderly (more (concatenation a us) ts) o = o
unrooted_orderly (more (repetition a t low high) ts) o = o

pub unrooted_some : {A : Type 0} (ts : Trees A) → IsSome ts → IsSome (unrooted ts)
unrooted_some none s = s
unrooted_some (more (leaf a (literal i t)) ts) s = tt
unrooted_some (more (leaf a (class n xs)) ts) s = tt
unrooted_some (more (leaf a separator) ts) s = tt
unrooted_some (more (leaf a one) ts) s = tt
unrooted_some (more (leaf a (zero_or_more v)) ts) s = tt
unrooted_some (more (leaf a (tree rooted)) ts) s = tt
unrooted_some (more (alternation a us) ts) s = tt
unrooted_some (more (concatenation a us) ts) s = tt
unrooted_some (more (repetition a t low high) ts) s = tt

-- the rest, with an annotation of its own
pub rest_orderly : {A : Type 0} (a : A) (t : Tree A) (n : ℕ) → Orderly t → IsSome (after n (opened t))
    → Orderly (concatenation a (rest t n))
rest_orderly {A = A} a t n o some =
    let ts : Trees A = after (owner t n).1 (members (owner t n).0) in
    let k : OrderlyEach (rest t n) = unrooted_orderly ts (after_orderly (owner t n).1 (members (owner t n).0)
    (members_orderly (owner t n).0 (here (inner_cut t n) t n o (inner_orderly t o n)))) in
    let is : IsSome (rest t n) = unrooted_some ts (not_none ts (subst IsSome (owner_opened t o.1 n) some)) in
    ((is, k.0), k.1, k.2, k.3)
