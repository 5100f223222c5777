-- What can be read from a place, and that it can be read in one way.
use Rattle.std.proofs.Common.{true≢false, ◌≡◌, ℕ, ◌+◌, ◌-◌, ◌≤◌, Bool, true, false, List, [], ◌∷◌, ◌++◌}
use Rattle.std.proofs.Common.{Option, Some, None, codes, refl, sym, ◌∙◌, ap, subst, inl, inr, arith, ◌⊎◌}
use Rattle.std.proofs.{Common.{◌||◌, ◌==◌, if◌then◌else◌}, lemmas.Bool.Decides.eqb_tells}
use Rattle.wax_token.specs.Syntax.{Leaf, Tree, leaf, alternation, concatenation, repetition, Trees}
use Rattle.wax_token.specs.Reads.{Span, Place, Past, Flags, no_flags, group, Around, whole, in_alternation}
use Rattle.wax_token.specs.Reads.{in_repetition, starts_with_one_of, utf8_len, ReadsBounds, nesting, deepest}
use Rattle.wax_token.specs.Reads.{IsSpan, ReadsToken, ReadsGlob, ReadsBranches}
use Rattle.wax_parse.specs.inner.Parser.{at, strip, is_end, flags_end, read_leaf, read_bounds}
use Rattle.wax_parse.specs.inner.Reading.{TokenFrom, GlobFrom, BranchesFrom, Sole, Unreadable}
use Rattle.wax_parse.proofs.{Runs.none_some, Bounds.{bounds_sound, bounds_complete}}
use Rattle.wax_parse.proofs.{Flags.{flags_last, flags_reached}, Leaves.{leaf_complete, no_leaf}}
use Rattle.wax_parse.proofs.{Places.{leaf_read, leaf_reads}, Trees.group_goes_on}

-- ---- characters
pub heads : (c d : ℕ) (s t : List ℕ) → c ∷ s ≡ d ∷ t → c ≡ d
heads c d s t e = cc

tails : (c d : ℕ) (s t : List ℕ) → c ∷ s ≡ d ∷ t → s ≡ t
tails c d s t e = cc

-- a place from its parts
pub place_is : (p q : Place) → p.insensitive ≡ q.insensitive → p.rest ≡ q.rest → p ≡ q
place_is p q e f = λ i. at (e i) (f i)

-- the place after one character
pub after_one : (c : ℕ) (m n k : Place) → m.rest ≡ c ∷ n.rest → n.insensitive ≡ m.insensitive
    → Past (c ∷ []) m k → k ≡ n
after_one c m n k e f h = place_is k n (h.1 ∙ sym f) (tails c c k.rest n.rest (sym h.0 ∙ e))

-- ---- where a glob ends, no token is read
flags_at_end : (around : Around) (p m : Place) → is_end around p.rest ≡ true → Flags p m → m ≡ p
flags_at_end around p m e no_flags = refl
flags_at_end around p m e (group b bs k f g) =
    absurd (true≢false (sym e ∙ ap (is_end around) f.0 ∙ group_goes_on around _))

brace_goes_on : (around : Around) (s : List ℕ) → is_end around (123 ∷ s) ≡ false
brace_goes_on whole s = refl
brace_goes_on in_alternation s = refl
brace_goes_on in_repetition s = refl

bracket_goes_on : (around : Around) (s : List ℕ) → is_end around (60 ∷ s) ≡ false
bracket_goes_on whole s = refl
bracket_goes_on in_alternation s = refl
bracket_goes_on in_repetition s = refl

one_of_two : (a b c : ℕ) (s : List ℕ) → starts_with_one_of (a ∷ b ∷ []) (c ∷ s) ≡ true → (a ≡ c) ⊎ (b ≡ c)
one_of_two a b c s e = elim (eqb_tells a c) [
  | inl h ↦ inl h.1
  | inr h ↦ elim (eqb_tells b c) [
    | inl k ↦ inr k.1
    | inr k ↦ absurd
        (true≢false (sym e ∙ (let u : ((a == c) || ((b == c) || false)) ≡ false = rw (h.0, k.0) refl in u)))
  ]
]

no_leaf_at_end : (around : Around) (first b : Bool) (s : List ℕ) → is_end around s ≡ true
    → read_leaf around first (at b s) ≡ None
no_leaf_at_end whole false b [] e = refl
no_leaf_at_end whole true b [] e = refl
no_leaf_at_end whole first b (c ∷ s) e = absurd (true≢false (sym e))
no_leaf_at_end in_alternation first b [] e = absurd (true≢false (sym e))
no_leaf_at_end in_alternation first b (c ∷ s) e = elim (one_of_two 44 125 c s e) [
  | inl h ↦ subst (λ z. read_leaf in_alternation first (at b (z ∷ s)) ≡ None) h
      (no_leaf in_alternation first b 44 s refl refl refl refl refl refl)
  | inr h ↦ subst (λ z. read_leaf in_alternation first (at b (z ∷ s)) ≡ None) h
      (no_leaf in_alternation first b 125 s refl refl refl refl refl refl)
]
no_leaf_at_end in_repetition first b [] e = absurd (true≢false (sym e))
no_leaf_at_end in_repetition first b (c ∷ s) e = elim (one_of_two 58 62 c s e) [
  | inl h ↦ subst (λ z. read_leaf in_repetition first (at b (z ∷ s)) ≡ None) h
      (no_leaf in_repetition first b 58 s refl refl refl refl refl refl)
  | inr h ↦ subst (λ z. read_leaf in_repetition first (at b (z ∷ s)) ≡ None) h
      (no_leaf in_repetition first b 62 s refl refl refl refl refl refl)
]

-- the span between two places
abbrev pub span_between : ℕ → Place → Place → Span
span_between size p q = (size - utf8_len p.rest, utf8_len p.rest - utf8_len q.rest)

pub span_from : (size : ℕ) (s : Span) (p q : Place) → IsSpan size s p q → s ≡ span_between size p q
span_from size s p q h = λ i. (
  (let u : s.0 ≡ size - utf8_len p.rest = omega (arith, h.0) in u) i,
  (let v : s.1 ≡ utf8_len p.rest - utf8_len q.rest = omega (arith, h.1) in v) i,
)

pub span_is : (size : ℕ) (p q : Place) → utf8_len p.rest ≤ size → utf8_len q.rest ≤ utf8_len p.rest
    → IsSpan size (span_between size p q) p q
span_is size p q h k = (omega (arith, h), omega (arith, k))

-- ---- the kinds of tokens, by what they begin with
pub no_token : (size : ℕ) (around : Around) (first : Bool) (p : Place) (t : Tree Span) (q : Place)
    → is_end around p.rest ≡ true → ReadsToken size t around first p q → ⊥
no_token size around first p (leaf s l) q e h =
    let m : h.0 ≡ p = flags_at_end around p h.0 e h.1 in
    let x : Leaf × Place = (l, q) in
    none_some x (sym (no_leaf_at_end around first p.insensitive p.rest e)
    ∙ ap (read_leaf around first) (sym m) ∙ leaf_complete around first l h.0 q h.2)
no_token size around first p (alternation s ts) q e h =
    let m : h.0 ≡ p = flags_at_end around p h.0 e h.3 in
    true≢false (sym e ∙ ap (λ z. is_end around z.rest) (sym m) ∙ ap (is_end around) h.4.0
    ∙ brace_goes_on around h.1.rest)
no_token size around first p (repetition s t low high) q e h =
    let m : h.0 ≡ p = flags_at_end around p h.0 e h.4 in
    true≢false (sym e ∙ ap (λ z. is_end around z.rest) (sym m) ∙ ap (is_end around) h.5.0
    ∙ bracket_goes_on around h.1.rest)
no_token size around first p (concatenation s ts) q e h = h

-- after its flag groups, where the parser looks at it
opened : (c : ℕ) (p m : Place) (s : List ℕ) → (c ≡ 40 → ⊥) → Flags p m → m.rest ≡ c ∷ s → m ≡ flags_end p
opened c p m s other f e = flags_last p m f (ap (starts_with_one_of (40 ∷ [])) e
    ∙ (let k : (40 == c) ≡ false = unequal in ap (λ z. z || false) k))
  where
    unequal : (40 == c) ≡ false
    unequal = elim (eqb_tells 40 c) [ inl h ↦ absurd (other (sym h.1)) | inr h ↦ h.0 ]

pub stripped : (c : ℕ) (m : Place) (s : List ℕ) → strip c (c ∷ s) ≡ Some s
stripped c m s =
    elim (eqb_tells c c) [ inl h ↦ ap (λ z. if z then Some s else None) h.0 | inr h ↦ absurd (h.1 refl) ]

abbrev IsLeafToken : ℕ → Around → Bool → Place → Tree Span → Place → Type 0
IsLeafToken size around first p u r = (s : Span) × (l : Leaf) × (u ≡ leaf s l)
    × (read_leaf around first (flags_end p) ≡ Some (l, r)) × IsSpan size s p r

leaf_token : (size : ℕ) (around : Around) (first : Bool) (p : Place) (u : Tree Span) (r : Place)
    → strip 123 (flags_end p).rest ≡ None → strip 60 (flags_end p).rest ≡ None →
    ReadsToken size u around first p r → IsLeafToken size around first p u r
leaf_token size around first p (leaf s l) r e f h =
    (s, l, refl, leaf_read around first l p h.0 r h.1 h.2, h.3)
leaf_token size around first p (alternation s ts) r e f h =
    let m : h.0 ≡ flags_end p =
    opened 123 p h.0 h.1.rest (λ z. (let k : ◌≡◌ {A = ℕ} 123 40 = z in omega (arith, k))) h.3 h.4.0 in
    absurd (none_some h.1.rest (sym e ∙ ap (λ z. strip 123 z.rest) (sym m) ∙ ap (strip 123) h.4.0
    ∙ stripped 123 p h.1.rest))
leaf_token size around first p (repetition s t low high) r e f h =
    let m : h.0 ≡ flags_end p =
    opened 60 p h.0 h.1.rest (λ z. (let k : ◌≡◌ {A = ℕ} 60 40 = z in omega (arith, k))) h.4 h.5.0 in
    absurd (none_some h.1.rest (sym f ∙ ap (λ z. strip 60 z.rest) (sym m) ∙ ap (strip 60) h.5.0
    ∙ stripped 60 p h.1.rest))
leaf_token size around first p (concatenation s ts) r e f h = absurd h

-- a token whose first character is an opening brace, after which n comes
abbrev IsAlternation : ℕ → Place → Place → Tree Span → Place → Type 0
IsAlternation size p n u r = (s : Span) × (us : Trees Span) × (u ≡ alternation s us)
    × ((k : Place) × ReadsBranches size us n k × Past (codes "}") k r) × IsSpan size s p r

no_leaf_opened : (around : Around) (first : Bool) (c : ℕ) (p n : Place) (l : Leaf) (m r : Place)
    → (c ≡ 123) ⊎ (c ≡ 60) → flags_end p ≡ at n.insensitive (c ∷ n.rest) → Flags p m →
    read_leaf around first (flags_end p) ≡ Some (l, r) → ⊥
no_leaf_opened around first c p n l m r (inl e) g f h = let x : Leaf × Place = (l, r) in
    none_some x (sym (no_leaf around first n.insensitive 123 n.rest refl refl refl refl refl refl)
    ∙ ap (λ z. read_leaf around first (at n.insensitive (z ∷ n.rest))) (sym e)
    ∙ ap (read_leaf around first) (sym g) ∙ h)
no_leaf_opened around first c p n l m r (inr e) g f h = let x : Leaf × Place = (l, r) in
    none_some x (sym (no_leaf around first n.insensitive 60 n.rest refl refl refl refl refl refl)
    ∙ ap (λ z. read_leaf around first (at n.insensitive (z ∷ n.rest))) (sym e)
    ∙ ap (read_leaf around first) (sym g) ∙ h)

-- the place after the opening character
after_opening : (c : ℕ) (p n m k : Place) → (c ≡ 40 → ⊥) → flags_end p ≡ at n.insensitive (c ∷ n.rest)
    → Flags p m → Past (c ∷ []) m k → k ≡ n
after_opening c p n m k other g f h =
    let e : m ≡ at n.insensitive (c ∷ n.rest) = opened c p m k.rest other f h.0 ∙ g in
    after_one c m n k (ap (λ z. z.rest) e) (ap (λ z. z.insensitive) (sym e)) h

-- where another character is found
other_opening : (c d : ℕ) (p n m k : Place) → (c ≡ 40 → ⊥) → (c ≡ d → ⊥)
    → flags_end p ≡ at n.insensitive (d ∷ n.rest) → Flags p m → Past (c ∷ []) m k → ⊥
other_opening c d p n m k other differ g f h =
    let e : m ≡ at n.insensitive (d ∷ n.rest) = opened c p m k.rest other f h.0 ∙ g in
    differ (heads c d k.rest n.rest (sym h.0 ∙ ap (λ z. z.rest) e))

alternation_token : (size : ℕ) (around : Around) (first : Bool) (p n : Place) (u : Tree Span) (r : Place)
    → flags_end p ≡ at n.insensitive (123 ∷ n.rest) → ReadsToken size u around first p r
    → IsAlternation size p n u r
alternation_token size around first p n (leaf s l) r e h = absurd
    (no_leaf_opened around first 123 p n l h.0 r (inl refl) e h.1 (leaf_read around first l p h.0 r h.1 h.2))
alternation_token size around first p n (alternation s ts) r e h =
    let k : h.1 ≡ n =
    after_opening 123 p n h.0 h.1 (λ z. (let k : ◌≡◌ {A = ℕ} 123 40 = z in omega (arith, k))) e h.3 h.4 in
    (s, ts, refl, (h.2, subst (λ z. ReadsBranches size ts z h.2) k h.5, h.6), h.7)
alternation_token size around first p n (repetition s t low high) r e h =
    absurd (other_opening 60 123 p n h.0 h.1 (λ z. (let k : ◌≡◌ {A = ℕ} 60 40 = z in omega (arith, k)))
    (λ z. (let k : ◌≡◌ {A = ℕ} 60 123 = z in omega (arith, k))) e h.4 h.5)
alternation_token size around first p n (concatenation s ts) r e h = absurd h

abbrev IsRepetition : ℕ → Place → Place → Tree Span → Place → Type 0
IsRepetition size p n u r = (s : Span) × (t : Tree Span) × (low : ℕ) × (high : Option ℕ)
    × (u ≡ repetition s t low high)
    × ((k : Place) × (cs : List ℕ) × ReadsGlob size t in_repetition n k × ReadsBounds cs low high
    × Past (cs ++ codes ">") k r) × IsSpan size s p r

repetition_token : (size : ℕ) (around : Around) (first : Bool) (p n : Place) (u : Tree Span) (r : Place)
    → flags_end p ≡ at n.insensitive (60 ∷ n.rest) → ReadsToken size u around first p r
    → IsRepetition size p n u r
repetition_token size around first p n (leaf s l) r e h = absurd
    (no_leaf_opened around first 60 p n l h.0 r (inr refl) e h.1 (leaf_read around first l p h.0 r h.1 h.2))
repetition_token size around first p n (alternation s ts) r e h =
    absurd (other_opening 123 60 p n h.0 h.1 (λ z. (let k : ◌≡◌ {A = ℕ} 123 40 = z in omega (arith, k)))
    (λ z. (let k : ◌≡◌ {A = ℕ} 123 60 = z in omega (arith, k))) e h.3 h.4)
repetition_token size around first p n (repetition s t low high) r e h =
    let k : h.1 ≡ n =
    after_opening 60 p n h.0 h.1 (λ z. (let k : ◌≡◌ {A = ℕ} 60 40 = z in omega (arith, k))) e h.4 h.5 in (
      s,
      t,
      low,
      high,
      refl,
      (h.2, h.3, subst (λ z. ReadsGlob size t in_repetition z h.2) k h.6, h.7, h.8),
      h.9,
    )
repetition_token size around first p n (concatenation s ts) r e h = absurd h

-- ---- tokens
pub leaf_sole : (size : ℕ) (around : Around) (depth : ℕ) (first : Bool) (p q : Place) (l : Leaf)
    → strip 123 (flags_end p).rest ≡ None → strip 60 (flags_end p).rest ≡ None →
    read_leaf around first (flags_end p) ≡ Some (l, q) → utf8_len p.rest ≤ size
    → utf8_len q.rest ≤ utf8_len p.rest →
    Sole (TokenFrom size around depth first p) (leaf (span_between size p q) l) q
leaf_sole size around depth first p q l e f g h k = (
  (
    (flags_end p, flags_reached p, leaf_reads around first l (flags_end p) q g, span_is size p q h k),
    omega arith,
  ),
  λ u r t. (let x : IsLeafToken size around first p u r = leaf_token size around first p u r e f t.0 in
      let y : Leaf × Place = (l, q) in let z : Leaf × Place = (x.1, r) in
      let yz : z ≡ y = same_leaf z y (sym x.3 ∙ g) in
      let s : x.0 ≡ span_between size p q =
      span_from size x.0 p r x.4 ∙ ap (λ w. span_between size p w.1) yz in
      (x.2 ∙ (λ i. leaf (s i) (yz i).0), ap (λ w. w.1) yz)),
)
  where
    same_leaf : (x y : Leaf × Place) → Some x ≡ Some y → x ≡ y
    same_leaf x y e = cc

pub leaf_unreadable : (size : ℕ) (around : Around) (depth : ℕ) (first : Bool) (p : Place)
    → strip 123 (flags_end p).rest ≡ None → strip 60 (flags_end p).rest ≡ None →
    read_leaf around first (flags_end p) ≡ None → Unreadable (TokenFrom size around depth first p)
leaf_unreadable size around depth first p e f g = λ u r t.
    let x : IsLeafToken size around first p u r = leaf_token size around first p u r e f t.0 in
    let z : Leaf × Place = (x.1, r) in none_some z (sym g ∙ x.3)

pub alternation_sole : (size : ℕ) (around : Around) (depth inner : ℕ) (first : Bool) (p n q : Place)
    (ts : Trees Span) → inner + 1 ≡ depth → flags_end p ≡ at n.insensitive (123 ∷ n.rest) →
    utf8_len p.rest ≤ size → utf8_len q.rest ≤ utf8_len p.rest → Sole (BranchesFrom size inner n) ts q →
    Sole (TokenFrom size around depth first p) (alternation (span_between size p q) ts) q
alternation_sole size around depth inner first p n q ts d e h k g = (
  (
    (
      flags_end p,
      n,
      g.0.0,
      flags_reached p,
      (ap (λ z. z.rest) e, sym (ap (λ z. z.insensitive) e)),
      g.0.1,
      g.0.2,
      span_is size p q h k,
    ),
    omega (arith, d, g.0.3),
  ),
  λ u r t. (let x : IsAlternation size p n u r = alternation_token size around first p n u r e t.0 in
      let y : 1 + deepest x.1 ≤ depth = subst (λ z. nesting z ≤ depth) x.2 t.1 in
      let z : (x.1 ≡ ts) × (r ≡ q) = g.1 x.1 r (x.3.0, x.3.1, x.3.2, omega (arith, y, d)) in
      let s : x.0 ≡ span_between size p q = span_from size x.0 p r x.4 ∙ ap (span_between size p) z.1 in
      (x.2 ∙ (λ i. alternation (s i) (z.0 i)), z.1)),
)

pub alternation_unreadable : (size : ℕ) (around : Around) (depth inner : ℕ) (first : Bool) (p n : Place)
    → inner + 1 ≡ depth → flags_end p ≡ at n.insensitive (123 ∷ n.rest) →
    Unreadable (BranchesFrom size inner n) → Unreadable (TokenFrom size around depth first p)
alternation_unreadable size around depth inner first p n d e g = λ u r t.
    let x : IsAlternation size p n u r = alternation_token size around first p n u r e t.0 in
    let y : 1 + deepest x.1 ≤ depth = subst (λ z. nesting z ≤ depth) x.2 t.1 in
    g x.1 r (x.3.0, x.3.1, x.3.2, omega (arith, y, d))

pub alternation_too_deep : (size : ℕ) (around : Around) (depth : ℕ) (first : Bool) (p n : Place) → depth ≡ 0
    → flags_end p ≡ at n.insensitive (123 ∷ n.rest) → Unreadable (TokenFrom size around depth first p)
alternation_too_deep size around depth first p n d e = λ u r t.
    let x : IsAlternation size p n u r = alternation_token size around first p n u r e t.0 in
    let y : 1 + deepest x.1 ≤ depth = subst (λ z. nesting z ≤ depth) x.2 t.1 in omega (arith, y, d)

pub repetition_sole : (size : ℕ) (around : Around) (depth inner : ℕ) (first : Bool)
    (p n k : Place) (t : Tree Span) (low : ℕ) (high : Option ℕ) (s : List ℕ) → inner + 1 ≡ depth
    → flags_end p ≡ at n.insensitive (60 ∷ n.rest) →
    utf8_len p.rest ≤ size → utf8_len s ≤ utf8_len p.rest → Sole (GlobFrom size in_repetition inner n) t k
    → read_bounds k.rest ≡ Some ((low, high), s) →
    Sole (TokenFrom size around depth first p)
    (repetition (span_between size p (at k.insensitive s)) t low high) (at k.insensitive s)
repetition_sole size around depth inner first p n k t low high s d e h l g b =
    let c : (cs : List ℕ) × ReadsBounds cs low high × (k.rest ≡ (cs ++ codes ">") ++ s) =
    bounds_sound k.rest low high s b in (
      (
        (
          flags_end p,
          n,
          k,
          c.0,
          flags_reached p,
          (ap (λ z. z.rest) e, sym (ap (λ z. z.insensitive) e)),
          g.0.0,
          c.1,
          (c.2, refl),
          span_is size p (at k.insensitive s) h l,
        ),
        omega (arith, d, g.0.1),
      ),
      λ u r v. (let x : IsRepetition size p n u r = repetition_token size around first p n u r e v.0 in
          let y : 1 + nesting x.1 ≤ depth = subst (λ z. nesting z ≤ depth) x.4 v.1 in
          let z : (x.1 ≡ t) × (x.5.0 ≡ k) = g.1 x.1 x.5.0 (x.5.2, omega (arith, y, d)) in
          let w : read_bounds k.rest ≡ Some ((x.2, x.3), r.rest) = ap (λ a. read_bounds a.rest) (sym z.1)
          ∙ ap read_bounds x.5.4.0 ∙ bounds_complete x.5.1 x.2 x.3 r.rest x.5.3 in
          let a : (ℕ × Option ℕ) × List ℕ = ((x.2, x.3), r.rest) in let a' : (ℕ × Option ℕ) × List ℕ =
          ((low, high), s) in let aa : a ≡ a' = same_bounds a a' (sym w ∙ b) in
          let rr : r ≡ at k.insensitive s =
          place_is r (at k.insensitive s) (x.5.4.1 ∙ ap (λ a. a.insensitive) z.1) (ap (λ a. a.1) aa) in
          let ss : x.0 ≡ span_between size p (at k.insensitive s) =
          span_from size x.0 p r x.6 ∙ ap (span_between size p) rr in
          (x.4 ∙ (λ i. repetition (ss i) (z.0 i) (aa i).0.0 (aa i).0.1), rr)),
    )
  where
    same_bounds : (x y : (ℕ × Option ℕ) × List ℕ) → Some x ≡ Some y → x ≡ y
    same_bounds x y e = cc

pub repetition_unreadable : (size : ℕ) (around : Around) (depth inner : ℕ) (first : Bool) (p n : Place)
    → inner + 1 ≡ depth → flags_end p ≡ at n.insensitive (60 ∷ n.rest) →
    Unreadable (GlobFrom size in_repetition inner n) → Unreadable (TokenFrom size around depth first p)
repetition_unreadable size around depth inner first p n d e g = λ u r v.
    let x : IsRepetition size p n u r = repetition_token size around first p n u r e v.0 in
    let y : 1 + nesting x.1 ≤ depth = subst (λ z. nesting z ≤ depth) x.4 v.1 in
    g x.1 x.5.0 (x.5.2, omega (arith, y, d))

pub repetition_unbounded : (size : ℕ) (around : Around) (depth inner : ℕ) (first : Bool) (p n k : Place)
    (t : Tree Span) → inner + 1 ≡ depth → flags_end p ≡ at n.insensitive (60 ∷ n.rest) →
    Sole (GlobFrom size in_repetition inner n) t k → read_bounds k.rest ≡ None
    → Unreadable (TokenFrom size around depth first p)
repetition_unbounded size around depth inner first p n k t d e g b = λ u r v.
    let x : IsRepetition size p n u r = repetition_token size around first p n u r e v.0 in
    let y : 1 + nesting x.1 ≤ depth = subst (λ z. nesting z ≤ depth) x.4 v.1 in
    let z : (x.1 ≡ t) × (x.5.0 ≡ k) = g.1 x.1 x.5.0 (x.5.2, omega (arith, y, d)) in
    let w : read_bounds k.rest ≡ Some ((x.2, x.3), r.rest) = ap (λ a. read_bounds a.rest) (sym z.1)
    ∙ ap read_bounds x.5.4.0 ∙ bounds_complete x.5.1 x.2 x.3 r.rest x.5.3 in
    let a : (ℕ × Option ℕ) × List ℕ = ((x.2, x.3), r.rest) in none_some a (sym b ∙ w)

pub repetition_too_deep : (size : ℕ) (around : Around) (depth : ℕ) (first : Bool) (p n : Place) → depth ≡ 0
    → flags_end p ≡ at n.insensitive (60 ∷ n.rest) → Unreadable (TokenFrom size around depth first p)
repetition_too_deep size around depth first p n d e = λ u r t.
    let x : IsRepetition size p n u r = repetition_token size around first p n u r e t.0 in
    let y : 1 + nesting x.1 ≤ depth = subst (λ z. nesting z ≤ depth) x.4 t.1 in omega (arith, y, d)
