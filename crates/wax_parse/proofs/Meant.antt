-- What an escaped text spells: literals and separators, which mean the text alone.
use Rattle.std.proofs.Common.{◌≡◌, ℕ, Bool, true, false, List, [], ◌∷◌, ◌++◌, codes, append-nil, refl, sym}
use Rattle.std.proofs.Common.{◌∙◌, ap, subst}
use Rattle.std.specs.Prelude.{◌↔◌}
use Rattle.wax_token.specs.declared.token.Evaluation.TheVariants.{Eager, Lazy}
use Rattle.wax_token.specs.Meaning.{Means, MeansEach, SameText}
use Rattle.wax_token.specs.Reads.{Flags, Past, Place, Reads, ReadsGlob, ReadsLeaf, ReadsToken, ReadsTokens}
use Rattle.wax_token.specs.Reads.{Span, TreeFollows, group, no_flags, start, utf8_len, whole}
use Rattle.wax_token.specs.Syntax.{Leaf, literal, class, separator, one, zero_or_more, tree, Tree, leaf}
use Rattle.wax_token.specs.Syntax.{alternation, concatenation, repetition, Trees, none, more}
use Rattle.wax_parse.specs.Backslash.{HasNoBackslash}
use Rattle.wax_parse.proofs.Escaped.{BeginsWith, escaped, front, none_escaped, not_meta_first, plain_first}
use Rattle.wax_parse.proofs.{Escaped.slash_is_no_backslash, Literals.{backslash_append, literal_text}}

-- no flag group stands in an escaped text
flagless : (p q : Place) (s : List ℕ) → p.rest ≡ escaped s → Flags p q → p ≡ q
flagless p q s e no_flags = refl
flagless p q s e (group b bs m f g) = absurd (not_meta_first 40 s _ refl (sym e ∙ f.0))

-- nor does `**`
starless : (p q : Place) (s : List ℕ) → p.rest ≡ escaped s → Past (codes "**") p q → ⊥
starless p q s e h = not_meta_first 42 s (42 ∷ q.rest) refl (sym e ∙ h.0)

pub treeless : (p q : Place) (s : List ℕ) → p.rest ≡ escaped s → TreeFollows whole p q → ⊥
treeless p q s e h =
    let m : p ≡ h.0 = flagless p h.0 s e h.2 in
    starless h.0 h.1 s (ap (λ z. z.rest) (sym m) ∙ e) h.3

-- ---- literals of one meaning
same_to : (t y : List ℕ) → SameText false t y → y ≡ t
same_to [] [] h = refl
same_to [] (d ∷ y) h = absurd h
same_to (c ∷ t) [] h = absurd h
same_to (c ∷ t) (d ∷ y) h = λ i. sym h.0 i ∷ same_to t y h.1 i

same_self : (t : List ℕ) → SameText false t t
same_self [] = tt
same_self (c ∷ t) = (refl, same_self t)

same_from : (t y : List ℕ) → y ≡ t → SameText false t y
same_from t y e = subst (SameText false t) (sym e) (same_self t)

literal_means : (i : Bool) (t : List ℕ) → i ≡ false → (b a : Bool) (y : List ℕ) → SameText i t y ↔ (y ≡ t)
literal_means i t e b a y =
    subst (λ z. SameText z t y ↔ (y ≡ t)) (sym e) (same_to t y, same_from t y)

-- a text without backslash is the only one that is meant
abbrev MeansOnly : (Bool → Bool → List ℕ → Type 0) → List ℕ → Type 0
MeansOnly M x = HasNoBackslash x × ((b a : Bool) (y : List ℕ) → M b a y ↔ (y ≡ x))

-- of the escaped text s the token takes a beginning, which it means alone
abbrev Takes : Tree Span → List ℕ → Place → Type 0
Takes t s q =
    (x u : List ℕ) × (s ≡ x ++ u) × (q.rest ≡ escaped u) × (q.insensitive ≡ false) × MeansOnly (Means t) x

leaf_takes : (k : Span) (l : Leaf) (first : Bool) (p q : Place) (s : List ℕ) → p.insensitive ≡ false →
    p.rest ≡ escaped s → ReadsLeaf whole first l p q → Takes (leaf k l) s q
leaf_takes k (literal i t) first p q s f e h =
    let n : HasNoBackslash t = literal_text t h.1.1 in
    let c : BeginsWith s t q.rest = front t s q.rest n (sym e ∙ h.2.0) in
    (t, c.0, c.1, c.2, h.2.1 ∙ f, (n, literal_means i t (h.0 ∙ f)))
leaf_takes k (class true xs) first p q s f e h = absurd (not_meta_first 91 s _ refl (sym e ∙ h.2.0))
leaf_takes k (class false xs) first p q s f e h = absurd (not_meta_first 91 s _ refl (sym e ∙ h.2.0))
leaf_takes k separator first p q s f e h =
    let c : BeginsWith s (47 ∷ []) q.rest =
    plain_first 47 s q.rest refl slash_is_no_backslash (sym e ∙ h.0.0) in
    (47 ∷ [], c.0, c.1, c.2, h.0.1 ∙ f, ((slash_is_no_backslash, tt), λ b a y. ((λ m. m), (λ m. m))))
leaf_takes k one first p q s f e h = absurd (not_meta_first 63 s q.rest refl (sym e ∙ h.0))
leaf_takes k (zero_or_more Eager) first p q s f e h = absurd (not_meta_first 42 s q.rest refl (sym e ∙ h.0.0))
leaf_takes k (zero_or_more Lazy) first p q s f e h = absurd (not_meta_first 36 s q.rest refl (sym e ∙ h.0.0))
leaf_takes k (tree true) first p q s f e h =
    let c : BeginsWith s (47 ∷ []) h.0.rest =
    plain_first 47 s h.0.rest refl slash_is_no_backslash (sym e ∙ h.1.0) in
    absurd (treeless h.0 q c.0 c.2 h.2)
leaf_takes k (tree false) first p q s f e h = absurd (starless p h.1 s e h.2)

module _ (size : ℕ) where
  token_takes : (t : Tree Span) (first : Bool) (p q : Place) (s : List ℕ) → p.insensitive ≡ false →
      p.rest ≡ escaped s → ReadsToken size t whole first p q → Takes t s q
  token_takes (leaf k l) first p q s f e h =
      let m : p ≡ h.0 = flagless p h.0 s e h.1 in
      leaf_takes k l first h.0 q s (ap (λ z. z.insensitive) (sym m) ∙ f) (ap (λ z. z.rest) (sym m) ∙ e) h.2
  token_takes (alternation k ts) first p q s f e h =
      let m : p ≡ h.0 = flagless p h.0 s e h.3 in
      absurd (not_meta_first 123 s h.1.rest refl (sym e ∙ ap (λ z. z.rest) m ∙ h.4.0))
  token_takes (repetition k t low high) first p q s f e h =
      let m : p ≡ h.0 = flagless p h.0 s e h.4 in
      absurd (not_meta_first 60 s h.1.rest refl (sym e ∙ ap (λ z. z.rest) m ∙ h.5.0))
  token_takes (concatenation k ts) first p q s f e h = absurd h

  tokens_mean : (ts : Trees Span) (first : Bool) (p q : Place) (s : List ℕ) → p.insensitive ≡ false →
      p.rest ≡ escaped s → q.rest ≡ [] → ReadsTokens size ts whole first p q → MeansOnly (MeansEach ts) s
  tokens_mean none first p q s f e d h =
      let n : s ≡ [] = none_escaped s (sym e ∙ ap (λ z. z.rest) h ∙ d) in
      subst (MeansOnly (MeansEach {A = Span} none)) (sym n) (tt, λ b a y. ((λ m. m), (λ m. m)))
  tokens_mean (more t none) first p q s f e d h =
      let k : Takes t s h.0 = token_takes t first p h.0 s f e h.1 in
      let n : k.1 ≡ [] = none_escaped k.1 (sym k.3 ∙ ap (λ z. z.rest) h.2 ∙ d) in
      let g : s ≡ k.0 = k.2 ∙ ap (λ z. k.0 ++ z) n ∙ append-nil k.0 in
      subst (MeansOnly (Means t)) (sym g) k.5
  tokens_mean (more t (more u us)) first p q s f e d h =
      let k : Takes t s h.0 = token_takes t first p h.0 s f e h.1 in
      let l : MeansOnly (MeansEach (more u us)) k.1 = tokens_mean (more u us) false h.0 q k.1 k.4 k.3 d h.2 in
      subst (MeansOnly (MeansEach (more t (more u us)))) (sym k.2) (
        backslash_append k.0 k.1 k.5.0 l.0,
        λ b a y. (
          (λ m. m.2 ∙ ap (λ z. z ++ m.1) ((k.5.1 b true m.0).0 m.3)
              ∙ ap (λ z. k.0 ++ z) ((l.1 true a m.1).0 m.4)),
          (λ g. (k.0, k.1, g, (k.5.1 b true k.0).1 refl, (l.1 true a k.1).1 refl)),
        ),
      )

  glob_means : (t : Tree Span) (p q : Place) (s : List ℕ) → p.insensitive ≡ false → p.rest ≡ escaped s →
      ReadsGlob size t whole p q → MeansOnly (Means t) s
  glob_means (concatenation k ts) p q s f e h = tokens_mean ts true p q s f e h.3 h.1
  glob_means (leaf k l) p q s f e h = absurd h
  glob_means (alternation k ts) p q s f e h = absurd h
  glob_means (repetition k t low high) p q s f e h = absurd h

abbrev empty : Tree Span
empty = leaf (0, 0) (literal false [])

empty_means : MeansOnly (Means empty) []
empty_means = (tt, literal_means false [] refl)

-- a tree that the escaped text spells means the text alone, and the text has no backslash
pub means_only : (e s : List ℕ) (t : Tree Span) → e ≡ escaped s → Reads e t → MeansOnly (Means t) s
means_only [] s t e h =
    let m : MeansOnly (Means empty) s =
    subst (MeansOnly (Means empty)) (sym (none_escaped s (sym e))) empty_means in
    subst (λ z. MeansOnly (Means z) s) (sym h) m
means_only (c ∷ cs) s t e h = glob_means (utf8_len (c ∷ cs)) t (start (c ∷ cs)) h.1 s refl e h.2
