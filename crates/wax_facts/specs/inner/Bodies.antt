-- The sub-glob inside the last token of a glob, if its tokens are in the opened list.
use Rattle.std.specs.Prelude.{◌≡◌, ℕ, List, zero, suc, if◌then◌else◌, ◌||◌, nat_lt, Option, Some, None}
use Rattle.wax_token.specs.Syntax.{Tree, leaf, alternation, concatenation, repetition, Trees, none, more}
use Rattle.wax_token.specs.{Reads.Span, Words.{annotation_of, members, trees}}
use Rattle.wax_facts.specs.{Prefix.opened, Orderly.Flat, Rest.{after, begins_with_tree, owner}}

-- the only branch of an alternation, or the body of a repetition of exactly one copy
abbrev pub open_body : {A : Type 0} → Tree A → Option (Tree A)
open_body (leaf a l) = None
open_body (alternation a none) = None
open_body (alternation a (more t none)) = Some t
open_body (alternation a (more t (more u us))) = None
open_body (concatenation a ts) = None
open_body (repetition a t zero high) = None
open_body (repetition a t (suc zero) None) = None
open_body (repetition a t (suc zero) (Some zero)) = None
open_body (repetition a t (suc zero) (Some (suc zero))) = Some t
open_body (repetition a t (suc zero) (Some (suc (suc n)))) = None
open_body (repetition a t (suc (suc low)) high) = None

abbrev pub last_body : {A : Type 0} → Trees A → Option (Tree A)
last_body none = None
last_body (more t none) = open_body t
last_body (more t (more u us)) = last_body (more u us)

-- the sub-glob is entered if a token of it is taken, or if it begins with the `**` just after the cut
abbrev pub entered_body : {A : Type 0} → ℕ → Option (Tree A) → Option (Tree A × ℕ)
entered_body n None = None
entered_body n (Some b) = if nat_lt 0 n || begins_with_tree (opened b) then Some (b, n) else None

-- if n tokens of the opened list of these are taken: the sub-glob at their end that is entered, and how many
-- of its tokens are taken
abbrev pub inside : {A : Type 0} → Trees A → ℕ → Option (Tree A × ℕ)
inside none n = None
inside (more t none) n = entered_body n (open_body t)
inside (more t (more u us)) zero = None
inside (more t (more u us)) (suc n) = inside (more u us) n

-- k tokens are taken of the sub-glob that is entered
abbrev pub IsInside : {A : Type 0} → Trees A → ℕ → ℕ → Type 0
IsInside {A = A} ts n k = (b : Tree A) × (inside ts n ≡ Some (b, k))

-- of a flat tree: the tokens of the rest, and the span of the glob or sub-glob that they belong to
abbrev pub AreRestTokens : Tree Span → ℕ → List (Tree Span) → Span → Type 0
AreRestTokens t n ts s =
    Flat t → (trees ts ≡ after (owner t n).1 (members (owner t n).0)) × (s ≡ annotation_of (owner t n).0)
