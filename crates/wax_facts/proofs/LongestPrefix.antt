-- The prefix of a glob is its longest literal prefix.
use Rattle.std.proofs.Common.{◌≡◌, ◌≤◌, ◌⊎◌, ℕ, suc, Bool, true, false, List, [], ◌∷◌, ◌++◌, length, Option}
use Rattle.std.proofs.Common.{Some, None, refl, sym, ap, ◌∙◌, subst, inl, inr, append-nil, append_assoc}
use Rattle.std.proofs.{Common.arith, lemmas.Bool.false≢true}
use Rattle.wax_token.specs.{Kinds.{is_separator, is_tree_wildcard}, Syntax.{Tree, Trees, more, none}}
use Rattle.wax_token.specs.Words.{listed, trees}
use Rattle.wax_facts.proofs.{PrefixUnique.tree_text, TextUnique.text_unique, Truths.true_false}
use Rattle.wax_facts.specs.Longest.{IsBorder, IsLiteralPrefix, IsLongestPrefix}
use Rattle.wax_facts.specs.{InvariantText.{Text, TextOfEach}, Joined.Front}
use Rattle.wax_facts.specs.Prefix.{Cut, IsRooted, Prefix, PrefixOf, opened, or_nothing, taken}

front_nothing : (m n : ℕ) (q p : List ℕ) → m ≡ 0 → q ≡ [] → (m ≤ n) × Front q p
front_nothing m n q p e f = (omega (arith, e), (p, ap (λ v. v ++ p) (sym f)))

module _ {A : Type 0} where
  border_more : (t : Tree A) (before after : List (Tree A)) → IsBorder before after
      → IsBorder (t ∷ before) after
  border_more t before [] h = tt
  border_more t before (u ∷ after) (inl w) = inl w
  border_more t [] (u ∷ after) (inr s) = absurd (false≢true s)
  border_more t (b ∷ before) (u ∷ after) (inr s) = inr s

  -- with a token of is_text text before it
  literal_more : (t : Tree A) (ts : Trees A) (n : ℕ) (x p : List ℕ) → Text t x → IsLiteralPrefix ts n p
      → IsLiteralPrefix (more t ts) (suc n) (x ++ p)
  literal_more t ts n x p is_text h = record {
    before = t ∷ h.before;
    after = h.after;
    split = ap (λ us. t ∷ us) h.split;
    count = ap suc h.count;
    text = (x, p, refl, is_text, h.text);
    border = border_more t h.before h.after h.border;
  }

  nothing_taken : (ts : Trees A) → IsBorder [] (listed ts) → IsLiteralPrefix ts 0 []
  nothing_taken ts border = record {
    before = [];
    after = listed ts;
    split = refl;
    count = refl;
    text = refl;
    border = border;
  }

  -- a literal prefix of tokens that takes the first of them: its text, and what it takes after it
  record Longer (t : Tree A) (ts : Trees A) (m : ℕ) (q : List ℕ) : Type 0 where
    x : List ℕ
    k : ℕ
    r : List ℕ
    count : m ≡ suc k
    splits : q ≡ x ++ r
    text : Text t x
    rest : IsLiteralPrefix ts k r ⊎ ((k ≡ 0) × (r ≡ []) × (is_separator t ≡ true))

  longer_at : (t : Tree A) (ts : Trees A) (before after : List (Tree A)) (y : List ℕ)
      → listed ts ≡ before ++ after → TextOfEach (trees before) y → IsBorder (t ∷ before) after
      → IsLiteralPrefix ts (length before) y
      ⊎ ((length before ≡ 0) × (y ≡ []) × (is_separator t ≡ true))
  longer_at t ts before [] y split text border = inl (record {
    before = before;
    after = [];
    split = split;
    count = refl;
    text = text;
    border = tt;
  })
  longer_at t ts before (u ∷ after) y split text (inl w) = inl (record {
    before = before;
    after = u ∷ after;
    split = split;
    count = refl;
    text = text;
    border = inl w;
  })
  longer_at t ts [] (u ∷ after) y split text (inr s) = inr (refl, text, s)
  longer_at t ts (b ∷ before) (u ∷ after) y split text (inr s) = inl (record {
    before = b ∷ before;
    after = u ∷ after;
    split = split;
    count = refl;
    text = text;
    border = inr s;
  })

  taken_of : (t : Tree A) (ts : Trees A) (m : ℕ) (q : List ℕ) (before after : List (Tree A))
      → t ∷ listed ts ≡ before ++ after → length before ≡ m → TextOfEach (trees before) q
      → IsBorder before after
      → ((m ≡ 0) × (q ≡ []) × (is_tree_wildcard t ≡ true)) ⊎ Longer t ts m q
  taken_of t ts m q [] [] split count text border = absurd (let e : ⊥ = cc in e)
  taken_of t ts m q [] (u ∷ after) split count text (inl w) =
      let same : t ≡ u = cc in inl (sym count, text, ap is_tree_wildcard same ∙ w)
  taken_of t ts m q [] (u ∷ after) split count text (inr s) = absurd (false≢true s)
  taken_of t ts m q (b ∷ before) after split count text border =
      let same : b ≡ t = cc in
      let split_rest : listed ts ≡ before ++ after = cc in
      inr (record {
        x = text.0;
        k = length before;
        r = text.1;
        count = sym count;
        splits = text.2;
        text = subst (λ v. Text v text.0) same text.3;
        rest = longer_at t ts before after text.1 split_rest text.4
            (subst (λ v. IsBorder (v ∷ before) after) same border);
      })

  takes : (t : Tree A) (ts : Trees A) (m : ℕ) (q : List ℕ) → IsLiteralPrefix (more t ts) m q
      → ((m ≡ 0) × (q ≡ []) × (is_tree_wildcard t ≡ true)) ⊎ Longer t ts m q
  takes t ts m q h = taken_of t ts m q h.before h.after h.split h.count h.text h.border

  -- what a cut says: none, if there is no literal prefix, or the longest is_text
  abbrev Best : Trees A → Option (ℕ × List ℕ) → Type 0
  Best ts None = (m : ℕ) (q : List ℕ) → IsLiteralPrefix ts m q → ⊥
  Best ts (Some c) = IsLiteralPrefix ts c.0 c.1
      × ((m : ℕ) (q : List ℕ) → IsLiteralPrefix ts m q → (m ≤ c.0) × Front q c.1)

  no_token : (m : ℕ) (q : List ℕ) (before after : List (Tree A)) → [] ≡ before ++ after
      → length before ≡ m → TextOfEach (trees before) q → (m ≤ 0) × Front q []
  no_token m q [] after split count text = front_nothing m 0 q [] (sym count) text
  no_token m q (b ∷ before) after split count text = absurd (let e : ⊥ = cc in e)

  best_wild : (t : Tree A) (ts : Trees A) → is_tree_wildcard t ≡ true → Best (more t ts) (Some (0, []))
  best_wild t ts wild = (
    nothing_taken (more t ts) (inl wild),
    λ m q h. elim (takes t ts m q h) [
      | inl e ↦ front_nothing m 0 q [] e.0 e.1
      | inr l ↦ absurd (tree_text t l.x wild l.text)
    ],
  )

  best_variant : (t : Tree A) (ts : Trees A) → is_tree_wildcard t ≡ false → ((x : List ℕ) → Text t x → ⊥)
      → Best (more t ts) None
  best_variant t ts tame varies m q h = elim (takes t ts m q h) [
    | inl e ↦ true_false (sym e.2 ∙ tame)
    | inr l ↦ varies l.x l.text
  ]

  -- after a token of is_text text, with the best cut of the later tokens
  best_more : (t : Tree A) (ts : Trees A) (x : List ℕ) (later : Option (ℕ × List ℕ)) → Text t x
      → Best ts later → (s : Bool) → is_separator t ≡ s → Best (more t ts) (taken s x later)
  best_more t ts x (Some c) is_text best s is = (
    literal_more t ts c.0 x c.1 is_text best.0,
    λ m q h.
        elim (takes t ts m q h) [
          | inl e ↦ front_nothing m (suc c.0) q (x ++ c.1) e.0 e.1
          | inr l ↦ (let same : l.x ≡ x = text_unique t l.x x l.text is_text in
              let begins : q ≡ x ++ l.r = l.splits ∙ ap (λ v. v ++ l.r) same in
              elim l.rest [
                | inl i ↦ (let b = best.1 l.k l.r i in (
                  omega (arith, l.count, b.0),
                  (
                    b.1.0,
                    ap (λ v. x ++ v) b.1.1
                        ∙ sym (append_assoc x l.r b.1.0) ∙ ap (λ v. v ++ b.1.0) (sym begins),
                  ),
                ))
                | inr i ↦ (
                  omega (arith, l.count, i.0),
                  (
                    c.1,
                    ap (λ v. v ++ c.1)
                        (sym (begins ∙ ap (λ v. x ++ v) i.1 ∙ append-nil x)),
                  ),
                )
              ])
        ],
  )
  best_more t ts x None is_text best true is = (
    slash,
    λ m q h. elim (takes t ts m q h) [
      | inl e ↦ front_nothing m 1 q x e.0 e.1
      | inr l ↦ (let same : l.x ≡ x = text_unique t l.x x l.text is_text in elim l.rest [
        | inl i ↦ absurd (best l.k l.r i)
        | inr i ↦ (
          omega (arith, l.count, i.0),
          (
            [],
            sym (append-nil q ∙ l.splits ∙ ap (λ v. l.x ++ v) i.1 ∙ append-nil l.x ∙ same),
          ),
        )
      ])
    ],
  ) where
    behind : (us : List (Tree A)) → IsBorder (t ∷ []) us
    behind [] = tt
    behind (u ∷ us) = inr is

    slash : IsLiteralPrefix (more t ts) 1 x
    slash = record {
      before = t ∷ [];
      after = listed ts;
      split = refl;
      count = refl;
      text = (x, [], sym (append-nil x), is_text, refl);
      border = behind (listed ts);
    }
  best_more t ts x None is_text best false is = λ m q h. elim (takes t ts m q h) [
    | inl e ↦ tree_text t x e.2 is_text
    | inr l ↦ elim l.rest [
      | inl i ↦ best l.k l.r i
      | inr i ↦ true_false (sym i.2 ∙ is)
    ]
  ]

  best : (ts : Trees A) (cut : Option (ℕ × List ℕ)) → Cut ts cut → Best ts cut
  best none cut h = subst (Best none) (sym h) (
    nothing_taken none tt,
    λ m q i. no_token m q i.before i.after i.split i.count i.text,
  )
  best (more t ts) cut (inl h) = subst (Best (more t ts)) (sym h.1) (best_wild t ts h.0)
  best (more t ts) cut (inr (inl h)) = subst (Best (more t ts)) (sym h.2) (best_variant t ts h.0 h.1)
  best (more t ts) cut (inr (inr h)) = subst (Best (more t ts)) (sym h.4)
      (best_more t ts h.0 h.1 h.2 (best ts h.1 h.3) (is_separator t) refl)

  longest : (ts : Trees A) (cut : Option (ℕ × List ℕ)) (n : ℕ) (p : List ℕ) → Best ts cut
      → n ≡ (or_nothing cut).0 → p ≡ (or_nothing cut).1 → IsLongestPrefix ts n p
  longest ts None n p best e f = record {
    literal = inr (e, f);
    longest = λ m q h. absurd (best m q h);
  }
  longest ts (Some c) n p best e f = record {
    literal = inl (subst (λ v. IsLiteralPrefix ts v p) (sym e)
        (subst (λ v. IsLiteralPrefix ts c.0 v) (sym f) best.0));
    longest = λ m q h. (let b = best.1 m q h in
        (omega (arith, e, b.0), subst (Front q) (sym f) b.1));
  }

  of_list : (ts : Trees A) (n : ℕ) (p : List ℕ) → PrefixOf ts n p → (IsRooted ts → ⊥) → IsLongestPrefix ts n p
  of_list ts n p (inl h) free = absurd (free h.0)
  of_list ts n p (inr h) free = longest ts h.1.0 n p (best ts h.1.0 h.1.1) h.1.2 h.1.3

  pub prefix_is_longest : (t : Tree A) (n : ℕ) (p : List ℕ) → Prefix t n p → (IsRooted (opened t) → ⊥)
      → IsLongestPrefix (opened t) n p
  prefix_is_longest t n p h free = of_list (opened t) n p h free
