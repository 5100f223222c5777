-- What is left of patterns, written one beside another.
use Rattle.std.proofs.Common.{◌≤◌, ◌<◌, ◌≡◌, ◌+◌, ◌-◌, ◌⊎◌, ℕ, Bool, false, take, All, List, [], ◌∷◌, ◌++◌}
use Rattle.std.proofs.Common.{chars, get_or, length, refl, sym, ◌∙◌, ap, subst, inl, inr, arith, append_assoc}
use Rattle.std.proofs.{Common.{length-append, sum_by}, lemmas.Bool.cases_lt}
use Rattle.std.proofs.lemmas.List.{get_or_default, take_all, take_more}
use Rattle.std.proofs.lemmas.List.Elements.{Contains-append_left, Contains-push, Contains-push_cases}
use Rattle.std.proofs.lemmas.List.Sorted.{Contains-permutation, IsPermutation-sym}
use Rattle.std.proofs.lemmas.List.Sums.{sum_by-append}
use Rattle.std.specs.List.Sorted.{IsPermutation}
use Rattle.wax_match.proofs.ClosedPieces.{IsInside, inside, inside_append, inside_literal, inside_sequence}
use Rattle.wax_match.proofs.Compiled.{compiled, compiled_sequence, spells_literal}
use Rattle.wax_match.proofs.EndPieces.{written_beside, written_coded, written_led, written_none, written_same}
use Rattle.wax_match.proofs.{Fragments.{Spells, spells_append, spells_same}, LeftCosts.one_more}
use Rattle.wax_match.proofs.Lefts.{same_next, text_from, text_to}
use Rattle.wax_match.proofs.SharedEnds.{ends_stay, inside_gap, spells_gap}
use Rattle.wax_match.specs.{Numbered.MeansNumbered, declared.encode.ends.Numbered.Numbered}
use Rattle.wax_match.specs.declared.encode.left.Lead.{Lead}
use Rattle.wax_match.specs.declared.encode.left.Lead.TheVariants.{Letters, Wild, Token}
use Rattle.wax_match.specs.{declared.encode.left.Left.Left, declared.encode.shared.WrittenEnd.WrittenEnd}
use Rattle.wax_match.specs.{inner.Code.{literal_code, sequence_code}, inner.Ends.{AreWritten, IsIn}}
use Rattle.wax_match.specs.inner.LeadCode.{gap_code, lead_code}
use Rattle.wax_match.specs.inner.Left.{AreSame, IsAfter, IsAfterAt, IsLed, Joined, LeadMeans, LeftMeans}
use Rattle.wax_match.specs.{inner.Left.{MeansBetween, OneLeftMeans, SomeLeftMeans}, inner.LeftCost.left_cost}
use Rattle.wax_program.specs.declared.instruction.Instruction.{Instruction}
use Rattle.wax_program.specs.declared.instruction.Instruction.TheVariants.{Back, End, Fork}
use Rattle.wax_token.specs.{Meaning.{Means, MeansEach, SameText}, Reads.Span}
use Rattle.wax_token.specs.Syntax.{Tree, leaf, alternation, concatenation, repetition}
use Rattle.wax_token.specs.Words.{members, trees}

-- ---- the code of leads, and of all that is left
pub spells_lead : (lead : Lead) → Spells (lead_code lead) (LeadMeans lead)
spells_lead (Letters text) =
    let t : List ℕ = chars text.now in
    spells_same (λ s m. text_to t s m) (λ s e. subst (λ z. SameText false t z) (sym e) (text_from t))
    (spells_literal false t)
spells_lead (Wild gap) = spells_gap gap
spells_lead (Token token sides) = compiled token.now sides.before sides.after

pub inside_lead : (lead : Lead) → IsInside (lead_code lead)
inside_lead (Letters text) = inside_literal false (chars text.now)
inside_lead (Wild gap) = inside_gap gap
inside_lead (Token token sides) = inside token.now sides.before sides.after

module _ (l : Left) where
  abbrev text : List Instruction
  text = literal_code false (chars l.text.now)

  abbrev rest : List Instruction
  rest = sequence_code (trees l.tokens.now) l.before false

  spells_left : Spells (text ++ (gap_code l.gap ++ rest)) (LeftMeans l)
  spells_left =
      spells_same
      (λ s h. record {
        front = h.0 ++ h.4.0;
        back = h.4.1;
        splits = h.2 ∙ ap (λ z. h.0 ++ z) h.4.2 ∙ sym (append_assoc h.0 h.4.0 h.4.1);
        spelt = record {
          taken = h.4.0;
          splits = ap (λ z. z ++ h.4.0) (text_to (chars l.text.now) h.0 h.3);
          means = h.4.3;
        };
        means = h.4.4;
      })
      (λ s h. (
        chars l.text.now,
        h.spelt.taken ++ h.back,
        h.splits ∙ ap (λ z. z ++ h.back) h.spelt.splits
            ∙ append_assoc (chars l.text.now) h.spelt.taken h.back,
        text_from (chars l.text.now),
        (h.spelt.taken, h.back, refl, h.spelt.means, h.means),
      ))
      (spells_append (spells_literal false (chars l.text.now))
      (spells_append (spells_gap l.gap) (compiled_sequence (trees l.tokens.now) l.before false)))

  inside_left : IsInside (text ++ (gap_code l.gap ++ rest))
  inside_left =
      inside_append text (gap_code l.gap ++ rest) (inside_literal false (chars l.text.now))
      (inside_append (gap_code l.gap) rest (inside_gap l.gap)
      (inside_sequence (trees l.tokens.now) l.before false))

  pub written_apart : (old a b new : List Instruction) → a ≡ rest ++ End l.number l.number ∷ old
      → b ≡ gap_code l.gap ++ a → new ≡ text ++ b → AreWritten old new (OneLeftMeans l)
  written_apart old a b new p q r =
      let end : List Instruction = End l.number l.number ∷ old in
      let e : new ≡ (text ++ (gap_code l.gap ++ rest)) ++ end =
      r ∙ ap (λ z. text ++ z) (q ∙ ap (λ z. gap_code l.gap ++ z) p ∙ sym
      (append_assoc (gap_code l.gap) rest end)) ∙ sym (append_assoc text (gap_code l.gap ++ rest) end) in
      written_coded l.number (text ++ (gap_code l.gap ++ rest)) old new spells_left inside_left e

-- ---- some of a list
module _ (ls : List Left) (i j : ℕ) (l : Left) (le : i ≤ j) (lt : j < length ls)
    (is : get_or ls j l ≡ l) (k : ℕ) where
  between_out : (s : List ℕ) → MeansBetween ls i (j + 1) k s → MeansBetween ls i j k s ⊎ OneLeftMeans l k s
  between_out s (n, m, after, before, at, one) = elim (cases_lt n j) [
    | inl lower ↦ inl (n, m, after, lower, at, one)
    | inr past ↦ (let same : n ≡ j = omega (arith, before, past) in
        let here : get_or ls j m ≡ m = subst (λ z. get_or ls z m ≡ m) same at in
        let it : m ≡ l = sym here ∙ get_or_default ls j m l lt ∙ is in
        inr (subst (λ z. OneLeftMeans z k s) it one))
  ]

  between_in : (s : List ℕ) → MeansBetween ls i j k s ⊎ OneLeftMeans l k s → MeansBetween ls i (j + 1) k s
  between_in s (inl (n, m, after, before, at, one)) = (n, m, after, omega (arith, before), at, one)
  between_in s (inr one) = (j, l, le, omega arith, is, one)

none_between : (ls : List Left) (i k : ℕ) (s : List ℕ) → MeansBetween ls i i k s → ⊥
none_between ls i k s (n, m, after, before, at, one) = omega (arith, after, before)

module _ (ls : List Left) (i : ℕ) (l : Left) (lt : i < length ls) (is : get_or ls i l ≡ l)
    (k : ℕ) (s : List ℕ) where
  one_out : MeansBetween ls i (i + 1) k s → OneLeftMeans l k s
  one_out m = elim (between_out ls i i l (omega arith) lt is k s
      m) [ inl none ↦ absurd (none_between ls i k s none) | inr one ↦ one ]

  one_in : OneLeftMeans l k s → MeansBetween ls i (i + 1) k s
  one_in one = between_in ls i i l (omega arith) lt is k s (inr one)

some_out : (ls : List Left) (a : Left) (k : ℕ) (s : List ℕ) → SomeLeftMeans (ls ++ a ∷ []) k s
    → SomeLeftMeans ls k s ⊎ OneLeftMeans a k s
some_out ls a k s (l, has, one) = elim (Contains-push_cases ls a l has) [
  | inl was ↦ inl (l, was, one)
  | inr here ↦ inr (subst (λ z. OneLeftMeans z k s) (sym here) one)
]

some_in : (ls : List Left) (a : Left) (k : ℕ) (s : List ℕ) → SomeLeftMeans ls k s ⊎ OneLeftMeans a k s
    → SomeLeftMeans (ls ++ a ∷ []) k s
some_in ls a k s (inl (l, has, one)) = (l, Contains-append_left ls (a ∷ []) l has, one)
some_in ls a k s (inr one) = (a, Contains-push ls a, one)

-- ---- what is left after a lead
module _ (lead : Lead) (ls : List Left) (start : ℕ) where
  after_out : (l a : Left) (k : ℕ) (s : List ℕ) → IsAfter lead l a → OneLeftMeans l k s
      → Joined (LeadMeans lead) (OneLeftMeans a k) s
  after_out l a k s f (n, m) = let j = f.means.to s m in (j.0, j.1, j.2, j.3, (n ∙ sym f.number, j.4))

  after_in : (l a : Left) (k : ℕ) (s : List ℕ) → IsAfter lead l a
      → Joined (LeadMeans lead) (OneLeftMeans a k) s → OneLeftMeans l k s
  after_in l a k s f (x, y, e, p, (n, m)) = (n ∙ f.number, f.means.from s (x, y, e, p, m))

  abbrev LedTo : ℕ → List Left → Type 0
  LedTo end led =
      (k : ℕ) → AreSame (MeansBetween ls start end k) (Joined (LeadMeans lead) (SomeLeftMeans led k))

  led_one : (l a : Left) → start < length ls → get_or ls start l ≡ l → IsAfter lead l a
      → LedTo (start + 1) ([] ++ a ∷ [])
  led_one l a lt is f k = record {
    to = λ s m. (let j = after_out l a k s f (one_out ls start l lt is k s m) in
        (j.0, j.1, j.2, j.3, some_in [] a k j.1 (inr j.4)));
    from = λ s m. one_in ls start l lt is k s (after_in l a k s f (
      m.0,
      m.1,
      m.2,
      m.3,
      elim (some_out [] a k m.1 m.4) [
        | inl none ↦ absurd (let lt : none.1.0 < 0 = none.1.1 in omega (arith, lt))
        | inr one ↦ one
      ],
    ));
  }

  led_next : (led : List Left) (end : ℕ) (l a : Left) → start ≤ end → end < length ls → get_or ls end l ≡ l
      → IsAfter lead l a → LedTo end led → LedTo (end + 1) (led ++ a ∷ [])
  led_next led end l a le lt is f was k = record {
    to = λ s m. elim (between_out ls start end l le lt is k s m) [
      | inl n ↦ (let j = (was k).to s n in (j.0, j.1, j.2, j.3, some_in led a k j.1 (inl j.4)))
      | inr one ↦ (let j = after_out l a k s f one in (j.0, j.1, j.2, j.3, some_in led a k j.1 (inr j.4)))
    ];
    from = λ s m. between_in ls start end l le lt is k s (elim (some_out led a k m.1 m.4) [
      | inl some ↦ inl ((was k).from s (m.0, m.1, m.2, m.3, some))
      | inr one ↦ inr (after_in l a k s f (m.0, m.1, m.2, m.3, one))
    ]);
  }

  abbrev Fits : ℕ → List Left → Type 0
  Fits end led = sum_by left_cost led + length (lead_code lead) + sum_by left_cost (take start ls)
      ≤ sum_by left_cost (take end ls)

  led_one_fits : (l a : Left) → start < length ls → l ≡ get_or ls start l → IsAfter lead l a
      → Fits (start + 1) ([] ++ a ∷ [])
  led_one_fits l a lt is f = let fits = f.fits in omega (arith, one_more ls start l lt is, fits)

  led_next_fits : (led : List Left) (end : ℕ) (l a : Left) → end < length ls → l ≡ get_or ls end l
      → IsAfter lead l a → Fits end led → Fits (end + 1) (led ++ a ∷ [])
  led_next_fits led end l a lt is f was =
      let fits = f.fits in
      omega (arith, one_more ls end l lt is, fits, was, sum_by-append left_cost led (a ∷ []))

  at_default : (l : Left) → start < length ls → get_or ls start (get_or ls start l) ≡ get_or ls start l
  at_default l lt = get_or_default ls start (get_or ls start l) l lt

  pub led_begins : (a : Left) (led : List Left) → start < length ls → IsAfterAt lead ls start a
      → led ≡ [] ++ a ∷ [] → IsLed lead ls start led
  led_begins a led lt after e =
      let l : Left = get_or ls start a in
      let is : get_or ls start l ≡ l = at_default a lt in
      let n : length led ≡ 1 = ap length e in
      record {
        some = omega (arith, n);
        within = omega (arith, n, lt);
        fits = subst (λ z. Fits (start + length z) z) (sym e) (led_one_fits l a lt (sym is) (after l is));
        means = subst (λ z. LedTo (start + length z) z) (sym e) (led_one l a lt is (after l is));
      }

  pub led_more : (led more : List Left) (end : ℕ) (l a : Left) → IsLed lead ls start led
      → end ≡ start + length led → end < length ls → l ≡ get_or ls end l → IsAfter lead l a
      → more ≡ led ++ a ∷ [] → IsLed lead ls start more
  led_more led more end l a was at lt is f e =
      let n : length more ≡ length led + 1 = ap length e ∙ length-append led (a ∷ []) in
      let le : start ≤ end = omega (arith, at) in
      let now : end + 1 ≡ start + length more = omega (arith, at, n) in
      let was_means : LedTo end led = subst (λ z. LedTo z led) (sym at) was.means in
      record {
        some = omega (arith, n);
        within = omega (arith, lt, at, n);
        fits = subst (λ z. Fits z more) now (subst (λ z. Fits (end + 1) z) (sym e)
            (led_next_fits led end l a lt is f (subst (λ z. Fits z led) (sym at) was.fits)));
        means = subst (λ z. LedTo z more) now
            (subst (λ z. LedTo (end + 1) z) (sym e) (led_next led end l a le lt (sym is) f was_means));
      }

-- ---- what was written for some of a list
module _ (ls : List Left) (start : ℕ) (l : Left) (lt : start < length ls) (is : l ≡ get_or ls start l)
    (old new : List Instruction) where
  pub first_apart : AreWritten old new (OneLeftMeans l)
      → AreWritten old new (MeansBetween ls start (start + 1))
  first_apart w = written_same old new (λ k s m. one_in ls start l lt (sym is) k s m)
      (λ k s m. one_out ls start l lt (sym is) k s m) w

pub first_led : (lead : Lead) (ls led sorted : List Left) (start next : ℕ) (old mid new : List Instruction)
    → IsLed lead ls start led → next ≡ start + length led
    → IsPermutation led sorted → new ≡ lead_code lead ++ mid → AreWritten old mid (SomeLeftMeans sorted)
    → AreWritten old new (MeansBetween ls start next)
first_led lead ls led sorted start next old mid new f at same e w =
    let back : IsPermutation sorted led = IsPermutation-sym led sorted same in
    subst (λ z. AreWritten old new (MeansBetween ls start z)) (sym at)
    (written_same old new
    (λ k s m. (f.means k).from s
    (m.0, m.1, m.2, m.3, (m.4.0, Contains-permutation sorted led m.4.0 back m.4.1, m.4.2)))
    (λ k s m. (let j = (f.means k).to s m in
    (j.0, j.1, j.2, j.3, (j.4.0, Contains-permutation led sorted j.4.0 same j.4.1, j.4.2))))
    (written_led (lead_code lead) old mid new (spells_lead lead) (inside_lead lead) e w))

-- nothing, or the first ones of a list
abbrev pub IsBegun : List Left → List Instruction → List Instruction → ℕ → Type 0
IsBegun ls old new start = ((start ≡ 0) × (new ≡ old))
    ⊎ ((0 < start) × AreWritten old new (MeansBetween ls 0 start))

module _ (ls : List Left) (start next : ℕ) (old mid last new : List Instruction)
    (first : start ≡ 0 → new ≡ last)
    (beside : 0 < start → new ≡ Fork (length last - length mid) ∷ last) where
  joined_in : (k : ℕ) (s : List ℕ) → start < next → MeansBetween ls start next k s
      ⊎ MeansBetween ls 0 start k s → MeansBetween ls 0 next k s
  joined_in k s lt (inl (n, m, after, before, at, one)) = (n, m, omega arith, before, at, one)
  joined_in k s lt (inr (n, m, after, before, at, one)) = (n, m, after, omega (arith, before, lt), at, one)

  joined_out : (k : ℕ) (s : List ℕ) → MeansBetween ls 0 next k s → MeansBetween ls start next k s
      ⊎ MeansBetween ls 0 start k s
  joined_out k s (n, m, after, before, at, one) = elim (cases_lt n start) [
    | inl lower ↦ inr (n, m, after, lower, at, one)
    | inr past ↦ inl (n, m, past, before, at, one)
  ]

  begun_next : start < next → IsBegun ls old mid start → AreWritten mid last (MeansBetween ls start next)
      → AreWritten old new (MeansBetween ls 0 next)
  begun_next lt (inl (zero, same)) w =
      subst (λ z. AreWritten old z (MeansBetween ls 0 next)) (sym (first zero))
      (subst (λ z. AreWritten z last (MeansBetween ls 0 next)) same
      (subst (λ z. AreWritten mid last (MeansBetween ls z next)) zero w))
  begun_next lt (inr (some, was)) w =
      written_same old new (λ k s m. joined_in k s lt m) (λ k s m. joined_out k s m)
      (written_beside old mid last new (beside some) was w)

  pub begun_more : start < next → IsBegun ls old mid start → AreWritten mid last (MeansBetween ls start next)
      → IsBegun ls old new next
  begun_more lt was w = inr (omega (arith, lt), begun_next lt was w)

  pub begun_kept : (ends : List WrittenEnd) → All (IsIn last) ends → All (IsIn new) ends
  begun_kept ends all = elim (cases_lt 0 start) [
    | inl some ↦ ends_stay last new (Fork (length last - length mid) ∷ []) (beside some) ends all
    | inr none ↦ ends_stay last new [] (first (omega (arith, none))) ends all
  ]

-- ---- all of the patterns
-- a token is the only member of its concatenation, or its members are
means_members : (t : Tree Span) (before after : Bool)
    → AreSame (MeansEach (members t) before after) (Means t before after)
means_members (leaf a l) before after = record { to = λ s m. m; from = λ s m. m }
means_members (alternation a ts) before after = record { to = λ s m. m; from = λ s m. m }
means_members (concatenation a ts) before after = record { to = λ s m. m; from = λ s m. m }
means_members (repetition a t low high) before after = record { to = λ s m. m; from = λ s m. m }

numbered_out : (ps : List Numbered) (p : Numbered) (k : ℕ) (s : List ℕ) → MeansNumbered (ps ++ p ∷ []) k s
    → MeansNumbered ps k s ⊎ (p.number ≡ k) × Means p.pattern.now false false s
numbered_out [] p k s m = elim m [ inl h ↦ inr h | inr h ↦ absurd h ]
numbered_out (q ∷ ps) p k s m = elim m [
  | inl h ↦ inl (inl h)
  | inr h ↦ elim (numbered_out ps p k s h) [ inl g ↦ inl (inr g) | inr g ↦ inr g ]
]

numbered_in : (ps : List Numbered) (p : Numbered) (k : ℕ) (s : List ℕ)
    → MeansNumbered ps k s ⊎ (p.number ≡ k) × Means p.pattern.now false false s
    → MeansNumbered (ps ++ p ∷ []) k s
numbered_in [] p k s m = elim m [ inl h ↦ absurd h | inr h ↦ inl h ]
numbered_in (q ∷ ps) p k s m = elim m [
  | inl h ↦ elim h [ inl g ↦ inl g | inr g ↦ inr (numbered_in ps p k s (inl g)) ]
  | inr h ↦ inr (numbered_in ps p k s (inr h))
]

-- what is left of the first patterns
abbrev pub AreLeft : List Left → List Numbered → ℕ → Type 0
AreLeft ls ps i = (k : ℕ) → AreSame (SomeLeftMeans ls k) (MeansNumbered (take i ps) k)

pub left_none : (ls : List Left) (ps : List Numbered) → ls ≡ [] → AreLeft ls ps 0
left_none ls ps empty k = record {
  to = λ s m. absurd (let lt : m.1.0 < length ls = m.1.1 in omega (arith, lt, ap length empty));
  from = λ s m. absurd m;
}

pub left_more : (ls more : List Left) (ps : List Numbered) (i : ℕ) (p : Numbered) (l : Left)
    (ts : List (Tree Span)) → i < length ps → p ≡ get_or ps i p
    → more ≡ ls ++ l ∷ [] → l.number ≡ p.number → trees ts ≡ members p.pattern.now
    → AreSame (LeftMeans l) (MeansEach (trees ts) false false) → AreLeft ls ps i → AreLeft more ps (i + 1)
left_more ls more ps i p l ts lt is e number tokens f was k =
    let next : take (i + 1) ps ≡ take i ps ++ p ∷ [] =
    take_more ps i p lt ∙ ap (λ x. take i ps ++ x ∷ []) (sym is) in
    let g : AreSame (LeftMeans l) (Means p.pattern.now false false) =
    same_next (subst (λ z. AreSame (LeftMeans l) (MeansEach z false false)) tokens f)
    (means_members p.pattern.now false false) in
    subst (λ z. AreSame (SomeLeftMeans z k) (MeansNumbered (take (i + 1) ps) k)) (sym e)
    (subst (λ z. AreSame (SomeLeftMeans (ls ++ l ∷ []) k) (MeansNumbered z k)) (sym next) (record {
      to = λ s m. numbered_in (take i ps) p k s (elim (some_out ls l k s m) [
        | inl some ↦ inl ((was k).to s some)
        | inr one ↦ inr (sym number ∙ sym one.0, g.to s one.1)
      ]);
      from = λ s m. some_in ls l k s (elim (numbered_out (take i ps) p k s m) [
        | inl some ↦ inl ((was k).from s some)
        | inr one ↦ inr (sym (number ∙ one.0), g.from s one.1)
      ]);
    }))

pub left_all : (ls : List Left) (ps : List Numbered) (i : ℕ) → length ps ≤ i → AreLeft ls ps i → (k : ℕ)
    → AreSame (SomeLeftMeans ls k) (MeansNumbered ps k)
left_all ls ps i past are =
    subst (λ z. (k : ℕ) → AreSame (SomeLeftMeans ls k) (MeansNumbered z k)) (take_all i ps past) are

pub numbered_written : (ps : List Numbered) (ls sorted : List Left) (old new : List Instruction)
    → ((k : ℕ) → AreSame (SomeLeftMeans ls k) (MeansNumbered ps k)) → IsPermutation ls sorted
    → AreWritten old new (SomeLeftMeans sorted) → AreWritten old new (MeansNumbered ps)
numbered_written ps ls sorted old new f same w =
    written_same old new
    (λ k s m.
    (f k).to s (m.0, Contains-permutation sorted ls m.0 (IsPermutation-sym ls sorted same) m.1, m.2))
    (λ k s m. (let h = (f k).from s m in (h.0, Contains-permutation ls sorted h.0 same h.1, h.2))) w

pub none_written : (ps : List Numbered) (old new : List Instruction) → ps ≡ [] → new ≡ Back 0 ∷ old
    → AreWritten old new (MeansNumbered ps)
none_written ps old new empty e =
    written_same old new (λ k s m. absurd m) (λ k s m. subst (λ z. MeansNumbered z k s) empty m)
    (written_none old new e)
