-- What is left of patterns costs no more than they do, and is no shorter than what is written for it.
use Rattle.std.proofs.Common.{◌≡◌, ◌+◌, ◌-◌, ◌≤◌, ◌<◌, ◌⊎◌, ℕ, false, List, [], ◌∷◌, ◌++◌, chars, length}
use Rattle.std.proofs.Common.{get_or, sum_by, take, refl, sym, ◌∙◌, ap, subst, inl, inr, arith, length-append}
use Rattle.std.proofs.{lemmas.Bool.cases_lt, lemmas.List.{take_all, take_more}}
use Rattle.std.proofs.{lemmas.List.Sums.sum_by-append, lemmas.Str.chars-nil}
use Rattle.wax_match.proofs.{Lefts.slash_chars, Lengths.{length-sequence, length-literal}}
use Rattle.wax_match.specs.{Numbered.numbered_length, declared.encode.ends.Numbered.Numbered}
use Rattle.wax_match.specs.declared.encode.left.Gap.{Gap}
use Rattle.wax_match.specs.declared.encode.left.Gap.TheVariants.{Nothing, Star, Folders, Below, Anything}
use Rattle.wax_match.specs.{declared.encode.left.Left.Left, inner.Code.{literal_code, sequence_code}}
use Rattle.wax_match.specs.{inner.LeadCode.gap_code, inner.LeftCost.left_cost}
use Rattle.wax_program.specs.declared.instruction.Instruction.{Instruction}
use Rattle.wax_program.specs.declared.instruction.Instruction.TheVariants.{Fork}
use Rattle.wax_token.specs.{Cost.{cost, costs}, Reads.Span}
use Rattle.wax_token.specs.Syntax.{Tree, leaf, alternation, concatenation, repetition}
use Rattle.wax_token.specs.Words.{members, trees}

-- ---- what tokens spell
gap_few : (gap : Gap) → length (gap_code gap) ≤ 3
gap_few Nothing = omega arith
gap_few Star = omega arith
gap_few Folders = omega arith
gap_few Below = omega arith
gap_few Anything = omega arith

pub slash_one : length (chars (47 ∷ [])) ≡ 1
slash_one = ap length slash_chars

pub none_long : (text : List ℕ) → text ≡ [] → length (chars text) ≡ 0
none_long text e = ap (λ z. length (chars z)) e ∙ ap length chars-nil

pub spelt_few : (text : List ℕ) (gap : Gap) → (text ≡ 47 ∷ []) ⊎ (text ≡ [])
    → length (chars text) + length (gap_code gap) ≤ 6
spelt_few text gap (inl e) = omega (arith, gap_few gap, ap (λ z. length (chars z)) e, slash_one)
spelt_few text gap (inr e) = omega (arith, gap_few gap, none_long text e)

-- ---- what is left of tokens
pub spelt_fits : (text : List ℕ) (gap : Gap) (t : Tree Span) (rest ts : List (Tree Span))
    → length (chars text) + length (gap_code gap) ≤ cost t → t ∷ rest ≡ ts
    → length (chars text) + length (gap_code gap) + costs (trees rest) + 2 ≤ costs (trees ts) + 2
spelt_fits text gap t rest ts le e = omega (arith, le, ap (λ z. costs (trees z)) e)

pub costs_members : (t : Tree Span) → costs (members t) ≡ cost t
costs_members (leaf a l) = omega arith
costs_members (alternation a ts) = omega arith
costs_members (concatenation a ts) = refl
costs_members (repetition a t low high) = omega arith

-- ---- what is written
pub apart_fits : (l : Left) (old behind gap new : List Instruction) (i : Instruction)
    → behind ≡ sequence_code (trees l.tokens.now) l.before false ++ i ∷ old
    → gap ≡ gap_code l.gap ++ behind → new ≡ literal_code false (chars l.text.now) ++ gap
    → length new + 1 ≤ length old + left_cost l
apart_fits l old behind gap new i a b c = omega (
  arith,
  ap length a,
  ap length b,
  ap length c,
  length-append (sequence_code (trees l.tokens.now) l.before false) (i ∷ old),
  length-append (gap_code l.gap) behind,
  length-append (literal_code false (chars l.text.now)) gap,
  length-sequence (trees l.tokens.now) l.before false,
  length-literal false (chars l.text.now),
)

-- ---- sums
pub one_more : (ls : List Left) (i : ℕ) (l : Left) → i < length ls → l ≡ get_or ls i l
    → sum_by left_cost (take (i + 1) ls) ≡ sum_by left_cost (take i ls) + left_cost l
one_more ls i l lt is =
    ap (sum_by left_cost) (take_more ls i l lt ∙ ap (λ x. take i ls ++ x ∷ []) (sym is))
    ∙ pushed (take i ls) l
  where
    pushed : (ls : List Left) (l : Left)
        → sum_by left_cost (ls ++ l ∷ []) ≡ sum_by left_cost ls + left_cost l
    pushed ls l = omega (arith, sum_by-append left_cost ls (l ∷ []))

pub patterns_fit : (ls more : List Left) (ps : List Numbered) (i : ℕ) (p : Numbered) (l : Left)
    (ts : List (Tree Span)) → i < length ps → p ≡ get_or ps i p → more ≡ ls ++ l ∷ []
    → trees ts ≡ members p.pattern.now → left_cost l ≤ costs (trees ts) + 2
    → sum_by left_cost ls + 1 ≤ numbered_length (take i ps)
    → sum_by left_cost more + 1 ≤ numbered_length (take (i + 1) ps)
patterns_fit ls more ps i p l ts lt is e tokens le was = omega (
  arith,
  was,
  le,
  ap costs tokens,
  costs_members p.pattern.now,
  ap (sum_by left_cost) e,
  sum_by-append left_cost ls (l ∷ []),
  ap numbered_length (take_more ps i p lt ∙ ap (λ x. take i ps ++ x ∷ []) (sym is)),
  sum_by-append (λ q. cost q.pattern.now + 2) (take i ps) (p ∷ []),
)

-- nothing was written, or what was written for the first ones of a list, and no fork
abbrev pub BegunFits : List Left → List Instruction → List Instruction → ℕ → Type 0
BegunFits ls old new start =
    (start ≡ 0 → length new ≡ length old)
    × (0 < start → length new + 1 ≤ length old + sum_by left_cost (take start ls))

pub begun_fits : (ls : List Left) (start next : ℕ) (old mid last new : List Instruction)
    → (start ≡ 0 → new ≡ last) → (0 < start → new ≡ Fork (length last - length mid) ∷ last)
    → length last + 1 + sum_by left_cost (take start ls) ≤ length mid + sum_by left_cost (take next ls)
    → BegunFits ls old mid start → start < next → BegunFits ls old new next
begun_fits ls start next old mid last new first beside one was lt = (
  (λ none. absurd (omega (arith, none, lt))),
  (λ _. elim (cases_lt 0 start) [
    | inl some ↦ omega (arith, ap length (beside some), one, was.1 some)
    | inr none ↦
        let zero : start ≡ 0 = omega (arith, none) in
        omega (arith, ap length (first zero), one, was.0 zero)
  ]),
)

pub all_fit : (ls : List Left) (start : ℕ) (old new : List Instruction) → 1 ≤ length ls → length ls ≤ start
    → BegunFits ls old new start → length new + 1 ≤ length old + sum_by left_cost ls
all_fit ls start old new some past fits =
    subst (λ z. length new + 1 ≤ length old + sum_by left_cost z) (take_all start ls past)
    (fits.1 (omega (arith, some, past)))
