-- The program of a list is no longer than those of its globs together, whether they are split or not.
use Rattle.std.proofs.Common.{◌≡◌, ◌≤◌, ◌<◌, ◌+◌, ◌∙◌, ℕ, Bool, true, false, if◌then◌else◌, List, [], ◌∷◌}
use Rattle.std.proofs.Common.{◌++◌, ap, arith, get_or, length, map, refl, subst, sym, take}
use Rattle.std.proofs.{lemmas.List.take_more, lemmas.List.Sums.{sum_by-append, sum_by-cons}}
use Rattle.wax_exclude.proofs.Costs.{one_copy}
use Rattle.wax_exclude.specs.{Ignored.Line, Length.{alternatives_length, list_length}}
use Rattle.wax_exclude.specs.declared.split.SplitLine.{SplitLine}
use Rattle.wax_exclude.specs.declared.numbers.NumberedLines.{NumberedLines}
use Rattle.wax_exclude.specs.inner.Numbers.{KnowsLines, alternatives_cost, split_length}
use Rattle.wax_exclude.specs.inner.Split.{split_of}
use Rattle.wax_facts.specs.Alternatives.{alternatives, beside, is_exactly_one, joined, levels, levels_each}
use Rattle.wax_lazy.proofs.Costs.{path_within}
use Rattle.wax_lazy.specs.Cost.{list_visits, match_visits, path_visits}
use Rattle.wax_match.specs.{Numbered.numbered_length, declared.encode.ends.Numbered.Numbered}
use Rattle.wax_program.specs.declared.instruction.Instruction.{Instruction}
use Rattle.wax_token.specs.{Cost.{branches_cost, cost, holds_tree, program_length}, Reads.Span}
use Rattle.wax_token.specs.Syntax.{Tree, leaf, alternation, concatenation, repetition, Trees, none, more}

-- ---- alternatives
beside_cost : (xs ys : List (List (Tree Span))) → alternatives_cost (joined (beside xs ys))
    ≡ alternatives_cost (joined xs) + alternatives_cost (joined ys)
beside_cost [] ys = omega arith
beside_cost (x ∷ xs) [] = omega arith
beside_cost (x ∷ xs) (y ∷ ys) = omega (
  arith,
  beside_cost xs ys,
  sum_by-append (λ t. cost t + 2) (x ++ y) (joined (beside xs ys)),
  sum_by-append (λ t. cost t + 2) x y,
  sum_by-append (λ t. cost t + 2) x (joined xs),
  sum_by-append (λ t. cost t + 2) y (joined ys),
)

mutual
  levels_cost : (t : Tree Span) → alternatives_cost (joined (levels t)) ≤ cost t + 2
  levels_cost (leaf a l) = omega arith
  levels_cost (alternation a none) = omega arith
  levels_cost (alternation a (more t none)) = omega (arith, levels_cost t)
  levels_cost (alternation a (more t (more u us))) = omega (
    arith,
    levels_cost t,
    each_cost (more u us),
    beside_cost (levels t) (levels_each (more u us)),
  )
  levels_cost (concatenation a none) = omega arith
  levels_cost (concatenation a (more t none)) = omega (arith, levels_cost t)
  levels_cost (concatenation a (more t (more u us))) = omega arith
  levels_cost (repetition a t low high) = opened (is_exactly_one low high) refl (levels_cost t) where
    opened : (b : Bool) → is_exactly_one low high ≡ b → alternatives_cost (joined (levels t)) ≤ cost t + 2
        → alternatives_cost (joined (if b then levels t else (repetition a t low high ∷ []) ∷ []))
        ≤ cost (repetition a t low high) + 2
    opened true e h = omega (arith, h, one_copy low high e (holds_tree t) (cost t))
    opened false e h = omega arith

  each_cost : (ts : Trees Span) → alternatives_cost (joined (levels_each ts)) ≤ branches_cost ts
  each_cost none = omega arith
  each_cost (more t ts) = omega (arith, levels_cost t, each_cost ts, beside_cost (levels t) (levels_each ts))

-- ---- patterns
counted_alike : (ts : List (Tree Span)) → alternatives_length ts ≡ alternatives_cost ts + 2
counted_alike [] = omega arith
counted_alike (t ∷ ts) = omega (
  arith,
  counted_alike ts,
  sum_by-cons (λ u. program_length u + 1) t ts,
  sum_by-cons (λ u. cost u + 2) t ts,
)

-- the program of a pattern is nearly as long as those of its alternatives together
pub alternatives_shorter : (t : Tree Span) → alternatives_length (alternatives t) ≤ program_length t + 3
alternatives_shorter t = omega (arith, counted_alike (alternatives t), levels_cost t)

-- ---- lines
pub split_shorter : (lines : List (Line Span)) → split_length (map split_of lines) < list_length lines
split_shorter [] = omega arith
split_shorter (line ∷ lines) = omega (
  arith,
  levels_cost line.glob,
  split_shorter lines,
  sum_by-append (λ l. alternatives_cost l.alternatives) (split_of line ∷ []) (map split_of lines),
  sum_by-append (λ l. program_length l.glob + 1) (line ∷ []) lines,
)

pub line_added : (lines : List (Line Span)) (old new : List Numbered) (i : ℕ) (line : Line Span)
    (p : Numbered) → i < length lines → line ≡ get_or lines i line → new ≡ old ++ p ∷ []
    → p.pattern.now ≡ line.glob
    → numbered_length old + 1 ≡ list_length (take i lines)
    → numbered_length new + 1 ≡ list_length (take (i + 1) lines)
line_added lines old new i line p lt is grown pattern was = omega (
  arith,
  was,
  ap cost pattern,
  ap numbered_length grown,
  sum_by-append (λ q. cost q.pattern.now + 2) old (p ∷ []),
  ap list_length (take_more lines i line lt ∙ ap (λ x. take i lines ++ x ∷ []) (sym is)),
  sum_by-append (λ l. program_length l.glob + 1) (take i lines) (line ∷ []),
)

pub alternative_counted : (ts : List (Tree Span)) (old new first : List Numbered) (i : ℕ) (t : Tree Span)
    (p : Numbered) → i < length ts → t ≡ get_or ts i t → new ≡ old ++ p ∷ [] → p.pattern.now ≡ t
    → numbered_length old ≡ numbered_length first + alternatives_cost (take i ts)
    → numbered_length new ≡ numbered_length first + alternatives_cost (take (i + 1) ts)
alternative_counted ts old new first i t p lt is grown pattern was = omega (
  arith,
  was,
  ap cost pattern,
  ap numbered_length grown,
  sum_by-append (λ q. cost q.pattern.now + 2) old (p ∷ []),
  ap alternatives_cost (take_more ts i t lt ∙ ap (λ x. take i ts ++ x ∷ []) (sym is)),
  sum_by-append (λ u. cost u + 2) (take i ts) (t ∷ []),
)

pub split_added : (lines : List SplitLine) (i old new : ℕ) (line : SplitLine)
    → i < length lines → line ≡ get_or lines i line → new ≡ old + alternatives_cost line.alternatives
    → old ≡ split_length (take i lines) → new ≡ split_length (take (i + 1) lines)
split_added lines i old new line lt is grown was = omega (
  arith,
  was,
  grown,
  ap split_length (take_more lines i line lt ∙ ap (λ x. take i lines ++ x ∷ []) (sym is)),
  sum_by-append (λ l. alternatives_cost l.alternatives) (take i lines) (line ∷ []),
)

-- ---- visits
-- of a program that is shorter than this
pub list_within : (code : List Instruction) (size : ℕ) → length code < size → (m old new : ℕ)
    → new ≤ old + list_visits code m → new ≤ old + path_visits size m + size
list_within code size shorter m old new h =
    let within : old + (length code + 1) + match_visits code m
    ≤ old + (length code + 1) + path_visits size m =
    path_within code size shorter m (old + (length code + 1)) (old + (length code + 1) + match_visits code m)
    (omega arith) in
    omega (arith, h, within, shorter)

-- of the lines of a list
pub lines_within : (lines : List (Line Span)) (numbered : NumberedLines) (text path : List ℕ) (old new : ℕ)
    → KnowsLines (map split_of lines) numbered → text ≡ path
    → new ≤ old + list_visits numbered.matcher (length text)
    → new ≤ old + path_visits (list_length lines) (length path) + list_length lines
lines_within lines numbered text path old new knows same h =
    let fits = knows.fits in
    subst (λ n. new ≤ old + path_visits (list_length lines) n + list_length lines) (ap length same)
    (list_within numbered.matcher (list_length lines) (omega (arith, fits, split_shorter lines))
    (length text) old new h)

-- of a pattern with these alternatives
pub alternatives_within : (ts : List (Tree Span)) (line : Line Span) (numbered : NumberedLines)
    → alternatives line.glob ≡ ts → (text path : List ℕ) (old new : ℕ)
    → KnowsLines (split_of line ∷ []) numbered → text ≡ path
    → new ≤ old + list_visits numbered.matcher (length text)
    → new ≤ old + path_visits (alternatives_length ts) (length path) + alternatives_length ts
alternatives_within ts line numbered is text path old new knows same h =
    let fits = knows.fits in
    let same_cost : alternatives_cost (alternatives line.glob) ≡ alternatives_cost ts =
    ap alternatives_cost is in
    subst (λ n. new ≤ old + path_visits (alternatives_length ts) n + alternatives_length ts) (ap length same)
    (list_within numbered.matcher (alternatives_length ts)
    (omega (arith, fits, same_cost, counted_alike ts)) (length text) old new h)
