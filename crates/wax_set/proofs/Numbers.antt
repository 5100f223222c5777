-- Which of a set's patterns match a text.
use Rattle.std.proofs.Common.{◌≡◌, ◌<◌, ◌↔◌, ◌++◌, ℕ, zero, suc, false, List, [], ◌∷◌, length, inl, inr, ◌≤◌}
use Rattle.std.proofs.Common.{arith, ap, sym, subst, refl, ◌∙◌, ◌⊎◌, ◌+◌, get_or, take}
use Rattle.std.proofs.{lemmas.List.{length-take-le, take_all, take_more}, lemmas.List.Sums.sum_by-append}
use Rattle.wax_lazy.specs.Numbers.{AreNumbers}
use Rattle.wax_match.proofs.Numbered.{numbered_push}
use Rattle.wax_match.specs.{Numbered.{MeansNumbered, numbered_length}, declared.encode.ends.Numbered.Numbered}
use Rattle.wax_prefilter.specs.Compiled.{AcceptsAlike, Instructions, IsCompiled}
use Rattle.wax_program.specs.{Closed.{AcceptsMarked, IsClosed}, Machine.{Accepts, mark}}
use Rattle.wax_program.specs.declared.instruction.Instruction.{Instruction}
use Rattle.wax_set.specs.Sets.{AreMatches, BranchMeans, IsAlternation, IsNumbered, MeansAt, MeansText}
use Rattle.wax_token.specs.{Cost.{branches_cost, cost, program_length}, Meaning.MeansSome, Reads.Span}
use Rattle.wax_token.specs.Syntax.{Tree, Trees, leaf, alternation, concatenation, repetition, none, more}
use Rattle.wax_token.specs.Words.{trees}

-- the numbers that a program lists are the indexes of the patterns
pub are_matches : (t : Tree Span) (code : List Instruction) (text numbers : List ℕ) → IsNumbered t code
    → AreNumbers code text numbers → AreMatches t text numbers
are_matches t code text numbers n are = record {
  each = λ number. (
    (λ h. (n.means number text).0 ((are.0 number).0 h)),
    (λ m. (are.0 number).1 ((n.means number text).1 m)),
  );
  ascending = are.1;
}

branch_means : (ts : Trees Span) (number : ℕ) (s : List ℕ) → BranchMeans ts number s
    → MeansSome ts false false s
branch_means none number s m = absurd m
branch_means (more t ts) zero s m = inl m
branch_means (more t ts) (suc number) s m = inr (branch_means ts number s m)

-- where one of the patterns matches, the set does
pub matches_some : (t : Tree Span) (number : ℕ) (s : List ℕ) → MeansAt t number s → MeansText t s
matches_some (alternation a ts) number s m = branch_means ts number s m
matches_some (leaf a l) number s m = absurd m
matches_some (concatenation a ts) number s m = absurd m
matches_some (repetition a t low high) number s m = absurd m

pub no_matches : (t : Tree Span) (s indexes : List ℕ) → indexes ≡ [] → (MeansText t s → ⊥)
    → AreMatches t s indexes
no_matches t s indexes empty never = record {
  each = λ number. (
    (λ h. absurd (let lt : h.0 < length indexes = h.1 in omega (arith, lt, ap length empty))),
    (λ m. absurd (never (matches_some t number s m))),
  );
  ascending = λ k lt. absurd (omega (arith, lt, ap length empty));
}

branch_of_some : (ts : Trees Span) (s : List ℕ) → MeansSome ts false false s
    → (number : ℕ) × BranchMeans ts number s
branch_of_some none s m = absurd m
branch_of_some (more t ts) s (inl m) = (zero, m)
branch_of_some (more t ts) s (inr m) = let r = branch_of_some ts s m in (suc r.0, r.1)

-- where the set matches, one of the patterns does
pattern_of_match : (t : Tree Span) (s : List ℕ) → IsAlternation t → MeansText t s
    → (number : ℕ) × MeansAt t number s
pattern_of_match t s alternates m =
    let r = branch_of_some alternates.0 s (subst (λ u. MeansText u s) alternates.1 m) in
    (r.0, subst (λ u. MeansAt u r.0 s) (sym alternates.1) r.1)

-- a text is accepted with the mark of some number exactly if the set matches it
pub marked_means : (t : Tree Span) (code : List Instruction) → IsAlternation t → IsNumbered t code
    → (s : List ℕ) → AcceptsMarked code s ↔ MeansText t s
marked_means t code alternates n s = (
  (λ (number, a). matches_some t number s ((n.means number s).0 a)),
  (λ m. let r = pattern_of_match t s alternates m in (r.0, (n.means r.0 s).1 r.1)),
)

-- so it is exactly if the program of the alternation accepts it
pub marked_compiled : (t : Tree Span) (code : List Instruction) (program : Instructions) → IsAlternation t
    → IsNumbered t code → IsCompiled t program
    → (s : List ℕ) → AcceptsMarked code s ↔ Accepts program.0 0 s
marked_compiled t code program alternates n is s =
    let means = marked_means t code alternates n s in (
      (λ a. (is.accepts s).1 (means.0 a)),
      (λ a. means.1 ((is.accepts s).0 a)),
    )

-- another program that accepts the same texts
pub compiled_alike : (t : Tree Span) (old new : Instructions) → IsCompiled t old → AcceptsAlike old new
    → IsCompiled t new
compiled_alike t old new is alike = record {
  accepts = λ s. (
    (λ a. (is.accepts s).0 ((alike.accepts s).0 a)),
    (λ m. (alike.accepts s).1 ((is.accepts s).1 m)),
  );
  len = alike.len ∙ is.len;
  fits = is.fits;
  longer = alike.longer is.longer;
}

-- ---- branches with their indexes
-- one more
branch_push : (ts : List (Tree Span)) (t : Tree Span) (k : ℕ) (s : List ℕ)
    → BranchMeans (trees (ts ++ t ∷ [])) k s
    ↔ (((k ≡ length ts) × MeansText t s) ⊎ BranchMeans (trees ts) k s)
branch_push [] t zero s = ((λ m. inl (refl, m)), (λ h. elim h [ inl g ↦ g.1 | inr g ↦ absurd g ]))
branch_push [] t (suc k) s =
    ((λ m. absurd m), (λ h. elim h [ inl g ↦ absurd (omega (arith, g.0)) | inr g ↦ absurd g ]))
branch_push (u ∷ ts) t zero s =
    ((λ m. inr m), (λ h. elim h [ inl g ↦ absurd (omega (arith, g.0)) | inr g ↦ g ]))
branch_push (u ∷ ts) t (suc k) s =
    let r = branch_push ts t k s in (
      (λ m. elim (r.0 m) [ inl g ↦ inl (ap suc g.0, g.1) | inr g ↦ inr g ]),
      (λ h. elim h [ inl g ↦ r.1 (inl (omega (arith, g.0), g.1)) | inr g ↦ r.1 (inr g) ]),
    )

-- the patterns numbered so far are the first branches
abbrev pub AreIndexed : List Numbered → List (Tree Span) → Type 0
AreIndexed patterns ts = (k : ℕ) (s : List ℕ) → MeansNumbered patterns k s ↔ BranchMeans (trees ts) k s

pub branch_added : (ts : List (Tree Span)) (i : ℕ) (t : Tree Span) (old new : List Numbered) (p : Numbered)
    → i < length ts → t ≡ get_or ts i t
    → new ≡ old ++ p ∷ [] → p.number ≡ i → p.pattern.now ≡ t → AreIndexed old (take i ts)
    → AreIndexed new (take (i + 1) ts)
branch_added ts i t old new p lt is grown number pattern all k s =
    let more : take (i + 1) ts ≡ take i ts ++ t ∷ [] =
    take_more ts i t lt ∙ ap (λ u. take i ts ++ u ∷ []) (sym is) in
    let size : length (take i ts) ≡ i = length-take-le i ts (omega (arith, lt)) in
    let push = numbered_push old p k s in
    let branch = branch_push (take i ts) t k s in (
      (λ m. subst (λ us. BranchMeans (trees us) k s)
          (sym more) (elim (push.0 (subst (λ ps. MeansNumbered ps k s) grown m)) [
            | inl one ↦ branch.1 (inl (one.0 ∙ number ∙ sym size, subst (λ u. MeansText u s) pattern one.1))
            | inr was ↦ branch.1 (inr ((all k s).0 was))
          ])),
      (λ m. subst (λ ps. MeansNumbered ps k s)
          (sym grown) (elim (branch.0 (subst (λ us. BranchMeans (trees us) k s) more m)) [
            | inl one ↦
                push.1 (inl (one.0 ∙ size ∙ sym number, subst (λ u. MeansText u s) (sym pattern) one.1))
            | inr was ↦ push.1 (inr ((all k s).1 was))
          ])),
    )

-- the program of all branches
pub indexed_program : (ts : List (Tree Span)) (i : ℕ) (patterns given : List Numbered)
    (code : List Instruction) → length ts ≤ i → given ≡ patterns
    → AreIndexed patterns (take i ts)
    → ((number : ℕ) (s : List ℕ) → Accepts code 0 (s ++ mark number ∷ []) ↔ MeansNumbered given number s)
    → (number : ℕ) (s : List ℕ) → Accepts code 0 (s ++ mark number ∷ []) ↔ BranchMeans (trees ts) number s
indexed_program ts i patterns given code past same all means number s =
    let whole : take i ts ≡ ts = take_all i ts past in
    let is = all number s in
    let ends = means number s in (
      (λ a. subst (λ us. BranchMeans (trees us) number s) whole
          (is.0 (subst (λ ps. MeansNumbered ps number s) same (ends.0 a)))),
      (λ m. ends.1 (subst (λ ps. MeansNumbered ps number s) (sym same)
          (is.1 (subst (λ us. BranchMeans (trees us) number s) (sym whole) m)))),
    )

-- the program of the branches of an alternation
pub numbers_branches : (ts : List (Tree Span)) (t : Tree Span) (code : List Instruction)
    → t ≡ alternation (0, 0) (trees ts)
    → ((number : ℕ) (s : List ℕ) → Accepts code 0 (s ++ mark number ∷ []) ↔ BranchMeans (trees ts) number s)
    → IsClosed code → length code < program_length (alternation (0, 0) (trees ts)) → IsNumbered t code
numbers_branches ts t code e means closed shorter = record {
  means = λ number s. subst (λ u. Accepts code 0 (s ++ mark number ∷ []) ↔ MeansAt u number s)
      (sym e) (means number s);
  closed = closed;
  shorter = subst (λ u. length code < program_length u) (sym e) shorter;
}

-- what the first branches cost, as patterns
branches_push : (ts : List (Tree Span)) (t : Tree Span)
    → branches_cost (trees (ts ++ t ∷ [])) ≡ branches_cost (trees ts) + (cost t + 2)
branches_push [] t = omega arith
branches_push (u ∷ ts) t = omega (arith, branches_push ts t)

pub branch_counted : (ts : List (Tree Span)) (i : ℕ) (t : Tree Span) (old new : List Numbered) (p : Numbered)
    → i < length ts → t ≡ get_or ts i t → new ≡ old ++ p ∷ [] → p.pattern.now ≡ t
    → numbered_length old ≡ branches_cost (trees (take i ts)) + 1
    → numbered_length new ≡ branches_cost (trees (take (i + 1) ts)) + 1
branch_counted ts i t old new p lt is grown pattern was = omega (
  arith,
  was,
  ap cost pattern,
  ap numbered_length grown,
  sum_by-append (λ q. cost q.pattern.now + 2) old (p ∷ []),
  ap (λ us. branches_cost (trees us)) (take_more ts i t lt ∙ ap (λ u. take i ts ++ u ∷ []) (sym is)),
  branches_push (take i ts) t,
)

pub branches_shorter : (ts : List (Tree Span)) (i : ℕ) (patterns given : List Numbered)
    (code : List Instruction) → length ts ≤ i → given ≡ patterns
    → numbered_length patterns ≡ branches_cost (trees (take i ts)) + 1 → length code ≤ numbered_length given
    → length code < program_length (alternation (0, 0) (trees ts))
branches_shorter ts i patterns given code past same counted le = omega (
  arith,
  le,
  ap numbered_length same,
  counted,
  ap (λ us. branches_cost (trees us)) (take_all i ts past),
)
