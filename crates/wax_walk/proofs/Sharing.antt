-- The path of an item, which begins with the path of its folder and ends with its name.
use Rattle.std.proofs.Common.{◌≡◌, ◌∙◌, ap, refl, sym, subst, inl, inr, arith, ℕ, ◌-◌, Bool, true, false}
use Rattle.std.proofs.{Common.{length, List, [], ◌∷◌, ◌++◌, cond, ◌==◌}, lemmas.Bool.cases_lt}
use Rattle.std.proofs.{Math.Dec.eqb-suc-zero, Math.Seq.drop-append_seam}
use Rattle.std.proofs.lemmas.List.{append_assoc, drop-append-le, length-append, length-take-le}
use Rattle.std.proofs.lemmas.List.{take-append-drop, take-append-le, get_or_append_left}
use Rattle.std.proofs.lemmas.Str.{IsCharBoundary-at_seam, IsCharBoundary-from_drop, IsUtf8-append}
use Rattle.std.proofs.lemmas.Str.{IsUtf8-encode}
use Rattle.std.specs.{Prelude.{take, drop, slice_index}, Str.{IsCharBoundary, IsUtf8}}
use lib.Utf8.{encode}
use Rattle.wax_directory.specs.Shown.{join}
use Rattle.wax_query.proofs.Ends.{open_append}
use Rattle.wax_query.specs.Below.{ends_open}
use Rattle.wax_walk.specs.inner.Shared.{IsShared}

-- what follows the folder's path: the name, after a `/` if one is needed
abbrev tail_of : Bool → List ℕ → List ℕ
tail_of true x = x
tail_of false x = 47 ∷ x

tail_utf8 : (b : Bool) (x : List ℕ) → IsUtf8 x → IsUtf8 (tail_of b x)
unfolding encode
tail_utf8 true x u = u
tail_utf8 false x u = IsUtf8-append (47 ∷ []) x (IsUtf8-encode 47 refl) u

join_tail : (at x : List ℕ) (b : Bool) → ends_open at ≡ b → join at x ≡ at ++ tail_of b x
join_tail at x true e = ap (λ v. cond v (at ++ x) (at ++ 47 ∷ x)) e
join_tail at x false e = ap (λ v. cond v (at ++ x) (at ++ 47 ∷ x)) e

-- a place between characters is one in a longer text
extends : (p t : List ℕ) (i : ℕ) → IsUtf8 t → IsCharBoundary p i → IsCharBoundary (p ++ t) i
extends p t i u b = elim (cases_lt i (length p)) [
  | inl less ↦
      let same : slice_index (p ++ t) i ≡ slice_index p i = get_or_append_left p t 0 i less in
      (omega (arith, less, length-append p t), λ l h. rw same (b.1 less (rw same at h)))
  | inr more ↦
      let is : length p ≡ i = omega (arith, more, b.0) in
      subst (IsCharBoundary (p ++ t)) is (IsCharBoundary-at_seam (p ++ t) p t refl u)
]

ends_with_name : (p x : List ℕ) (b : Bool)
    → drop (length (p ++ tail_of b x) - length x) (p ++ tail_of b x) ≡ x
ends_with_name p x true =
    let n : length (p ++ x) - length x ≡ length p = omega (arith, length-append p x) in
    rw n (drop-append_seam p x)
ends_with_name p x false =
    let split : p ++ 47 ∷ x ≡ (p ++ 47 ∷ []) ++ x = sym (append_assoc p (47 ∷ []) x) in
    let n : length (p ++ 47 ∷ x) - length x ≡ length (p ++ 47 ∷ []) =
    omega (arith, length-append p (47 ∷ x), length-append p (47 ∷ [])) in
    rw n (ap (drop (length (p ++ 47 ∷ []))) split ∙ drop-append_seam (p ++ 47 ∷ []) x)

-- the name is the end of its path
pub item_name : (path name : List ℕ) → drop (length (join path name) - length name) (join path name) ≡ name
item_name path name =
    rw (join_tail path name (ends_open path) refl) (ends_with_name path name (ends_open path))

pub item_name_begins : (path name : List ℕ) → IsUtf8 name
    → IsCharBoundary (join path name) (length (join path name) - length name)
item_name_begins path name u = IsCharBoundary-from_drop (join path name) _ (omega arith)
    (rw (item_name path name) u)

-- parts of a path begin and end it
pub parts_shared : (path : List ℕ) (end start : ℕ) → IsCharBoundary path end → IsCharBoundary path start
    → IsShared path (take end path) (drop start path) start
parts_shared path end start e s =
    let long : length (take end path) ≡ end = length-take-le end path e.0 in record {
      begins = ap (λ n. take n path) long;
      root_ends = subst (IsCharBoundary path) (sym long) e;
      ends = refl;
      candidate_begins = s;
    }

-- the path of an item still begins with the start
item_begins : (path root candidate name : List ℕ) (start : ℕ)
    → IsShared path root candidate start → IsUtf8 name
    → (take (length root) (join path name) ≡ root) × IsCharBoundary (join path name) (length root)
item_begins path root candidate name start shared text =
    let joined = join_tail path name (ends_open path) refl in (
      ap (take (length root)) joined ∙ take-append-le (length root) path _ shared.root_ends.0 ∙ shared.begins,
      rw joined (extends path _ (length root) (tail_utf8 (ends_open path) name text) shared.root_ends),
    )

-- the candidate of an item is its name if that of the folder is empty
pub shared_name : (path root candidate name : List ℕ) (start : ℕ) → IsShared path root candidate start
    → IsUtf8 name → true ≡ (length candidate == 0)
    → IsShared (join path name) root (join candidate name) (length (join path name) - length name)
shared_name path root [] name start shared text none =
    let begins = item_begins path root [] name start shared text in record {
      begins = begins.0;
      root_ends = begins.1;
      ends = item_name path name;
      candidate_begins = item_name_begins path name text;
    }
shared_name path root (c ∷ cs) name start shared text none =
    absurd (let e : true ≡ false = none ∙ eqb-suc-zero (length cs) in (cc))

-- and else begins where that of the folder does
pub shared_candidate : (path root candidate name : List ℕ) (start : ℕ) → IsShared path root candidate start
    → IsUtf8 name → false ≡ (length candidate == 0)
    → IsShared (join path name) root (join candidate name) start
shared_candidate path root [] name start shared text some = absurd (let e : false ≡ true = some in (cc))
shared_candidate path root (c ∷ cs) name start shared text some =
    let begins = item_begins path root (c ∷ cs) name start shared text in
    let joined = join_tail path name (ends_open path) refl in
    let whole : path ≡ take start path ++ c ∷ cs =
    sym (take-append-drop start path) ∙ ap (λ v. take start path ++ v) shared.ends in
    let same : ends_open (c ∷ cs) ≡ ends_open path =
    sym (open_append (take start path) c cs) ∙ sym (ap ends_open whole) in record {
      begins = begins.0;
      root_ends = begins.1;
      ends =
          ap (drop start) joined
          ∙ drop-append-le start path _ shared.candidate_begins.0
          ∙ ap (λ v. v ++ tail_of (ends_open path) name) shared.ends
          ∙ sym (join_tail (c ∷ cs) name (ends_open path) same);
      candidate_begins =
          rw joined (extends path _ start (tail_utf8 (ends_open path) name text) shared.candidate_begins);
    }
