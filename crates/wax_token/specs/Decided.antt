-- Whether a tree means a text, as a truth value.
use Rattle.std.proofs.Common.{◌≡◌, ◌≢◌, ℕ, zero, suc, ◌+◌, ◌-◌, ◌≤◌, Bool, true, false, ◌⊎◌, List, [], ◌∷◌}
use Rattle.std.proofs.Common.{◌++◌, Option, Some, None, length, refl, sym, ap, subst, inl, inr, arith}
use Rattle.std.proofs.{Common.length-append, lemmas.Bool.{cases_eq, cases_lt}}
use Rattle.std.specs.Prelude.{IsTrue, ◌↔◌}
use Rattle.unicode.specs.CaseFolding.{simple_fold}
use Rattle.wax_token.specs.Syntax.{Leaf, literal, class, separator, one, zero_or_more, tree, Tree, leaf}
use Rattle.wax_token.specs.Syntax.{alternation, concatenation, repetition, Trees, none, more}
use Rattle.wax_token.specs.Meaning.{HasNoSlash, TreeMeans, SameFold, SameText, LeafMeans, in_class, Copies}
use Rattle.wax_token.specs.Meaning.{Means, MeansSome, MeansEach}
use Rattle.wax_query.specs.{Components.{BeginsWithSlash, EndsWithSlash}, Ranges.AtMost}

-- a fact that is known to hold or not to hold
abbrev pub Decided : Type 0 → Type 0
Decided P = P ⊎ (P → ⊥)

-- whether the fact holds
abbrev pub holds : {P : Type 0} → Decided P → Bool
holds (inl p) = true
holds (inr n) = false

pub holds_truly : {P : Type 0} (d : Decided P) → IsTrue (holds d) ↔ P
holds_truly (inl p) = ((λ e. p), (λ q. refl))
holds_truly (inr n) = ((λ e. (cc)), (λ q. absurd (n q)))

-- ---- facts made of others

yes : {P Q : Type 0} → (P → Q) → (Q → P) → Decided P → Decided Q
yes f g d = elim d [ inl p ↦ inl (f p) | inr n ↦ inr (λ q. n (g q)) ]

pub both : {P Q : Type 0} → Decided P → Decided Q → Decided (P × Q)
both d e = elim d [
  | inl p ↦ elim e [ inl q ↦ inl (p, q) | inr n ↦ inr (λ h. n h.1) ]
  | inr n ↦ inr (λ h. n h.0)
]

pub either : {P Q : Type 0} → Decided P → Decided Q → Decided (P ⊎ Q)
either d e = elim d [
  | inl p ↦ inl (inl p)
  | inr n ↦ elim e [
    | inl q ↦ inl (inr q)
    | inr m ↦ inr (λ h. elim h [ inl p ↦ n p | inr q ↦ m q ])
  ]
]

other : {P : Type 0} → Decided P → Decided (P → ⊥)
other d = elim d [ inl p ↦ inr (λ n. n p) | inr n ↦ inl n ]

pub is_true : (b : Bool) → Decided (b ≡ true)
is_true true = inl refl
is_true false = inr (λ e. (cc))

pub at_least : (low k : ℕ) → Decided (low ≤ k)
at_least low k = elim (cases_lt k low) [ inl h ↦ inr (λ l. omega (arith, h, l)) | inr h ↦ inl h ]

-- some number up to n
some_up_to : (P : ℕ → Type 0) → ((k : ℕ) → Decided (P k)) → (n : ℕ) → Decided ((k : ℕ) × (k ≤ n) × P k)
some_up_to P d zero =
    yes (λ h. (0, omega arith, h)) (λ h. (let e : h.0 ≡ 0 = omega (arith, h.1) in subst P e h.2)) (d 0)
some_up_to P d (suc n) = elim (d (suc n)) [
  | inl h ↦ inl (suc n, omega arith, h)
  | inr m ↦ elim (some_up_to P d n) [
    | inl h ↦ inl (h.0, omega (arith, h.1), h.2)
    | inr o ↦ inr (λ h. elim (cases_eq h.0 (suc n)) [
      | inl e ↦ m (subst P e h.2)
      | inr e ↦ o (h.0, omega (arith, h.1, e), h.2)
    ])
  ]
]

-- ---- texts

pub same_list : (s t : List ℕ) → Decided (s ≡ t)
same_list [] [] = inl refl
same_list [] (c ∷ t) = inr (λ e. (cc))
same_list (c ∷ s) [] = inr (λ e. (cc))
same_list (c ∷ s) (d ∷ t) = elim (cases_eq c d) [
  | inl e ↦ elim (same_list s t) [ inl f ↦ inl (λ i. e i ∷ f i) | inr n ↦ inr (λ g. n (cc)) ]
  | inr n ↦ inr (λ g. n (cc))
]

-- a text of two pieces
abbrev Pieces : (List ℕ → Type 0) → (List ℕ → Type 0) → List ℕ → Type 0
Pieces P Q s = (x : List ℕ) × (y : List ℕ) × (s ≡ x ++ y) × P x × Q y

pieces : (P Q : List ℕ → Type 0) →
    ((x : List ℕ) → Decided (P x)) → ((y : List ℕ) → Decided (Q y)) → (s : List ℕ) →
    Decided (Pieces P Q s)
pieces P Q p q [] = elim (both (p []) (q [])) [
  | inl h ↦ inl ([], [], refl, h.0, h.1)
  | inr n ↦ inr (λ g. no g.0 g.1 g.2 g.3 g.4 n)
] where
  no : (x y : List ℕ) → [] ≡ x ++ y → P x → Q y → (P [] × Q [] → ⊥) → ⊥
  no [] y e h k n = n (h, subst Q (sym e) k)
  no (c ∷ x) y e h k n = cc
pieces P Q p q (c ∷ s) = elim (both (p []) (q (c ∷ s))) [
  | inl h ↦ inl ([], c ∷ s, refl, h.0, h.1)
  | inr n ↦ elim (pieces (λ x. P (c ∷ x)) Q (λ x. p (c ∷ x)) q s) [
    | inl h ↦ inl (c ∷ h.0, h.1, ap (λ z. c ∷ z) h.2, h.3, h.4)
    | inr m ↦ inr (λ g. no g.0 g.1 g.2 g.3 g.4 n m)
  ]
] where
  no : (x y : List ℕ) → c ∷ s ≡ x ++ y → P x → Q y →
      (P [] × Q (c ∷ s) → ⊥) → (Pieces (λ x. P (c ∷ x)) Q s → ⊥) → ⊥
  no [] y e h k n m = n (h, subst Q (sym e) k)
  no (d ∷ x) y e h k n m = let i : d ≡ c = cc in m (x, y, (cc), subst (λ v. P (v ∷ x)) i h, k)

begins : (s : List ℕ) → Decided (BeginsWithSlash s)
begins [] = inr (λ b. (let e = b.1 in cc))
begins (c ∷ s) = elim (cases_eq c 47) [
  | inl e ↦ inl (s, ap (λ v. v ∷ s) e)
  | inr n ↦ inr (λ b. n (let e = b.1 in cc))
]

ends_end : (t : List ℕ) → [] ≡ t ++ 47 ∷ [] → ⊥
ends_end [] e = cc
ends_end (c ∷ t) e = cc

ends_one : (c : ℕ) (t : List ℕ) → c ∷ [] ≡ t ++ 47 ∷ [] → c ≡ 47
ends_one c [] e = cc
ends_one c (d ∷ t) e = absurd (ends_end t (cc))

ends_more : (c d : ℕ) (s t : List ℕ) → c ∷ d ∷ s ≡ t ++ 47 ∷ [] → EndsWithSlash (d ∷ s)
ends_more c d s [] e = cc
ends_more c d s (x ∷ t) e = (t, (cc))

ends : (s : List ℕ) → Decided (EndsWithSlash s)
ends [] = inr (λ b. ends_end b.0 b.1)
ends (c ∷ []) = elim (cases_eq c 47) [
  | inl e ↦ inl ([], ap (λ v. v ∷ []) e)
  | inr n ↦ inr (λ b. n (ends_one c b.0 b.1))
]
ends (c ∷ d ∷ s) = yes (λ b. (c ∷ b.0, ap (λ v. c ∷ v) b.1)) (λ b. ends_more c d s b.0 b.1) (ends (d ∷ s))

pub no_slash : (s : List ℕ) → Decided (HasNoSlash s)
no_slash [] = inl tt
no_slash (c ∷ s) = both (other (cases_eq c 47)) (no_slash s)

same_fold : (c d : ℕ) → Decided (SameFold c d)
unfolding SameFold
same_fold c d = cases_eq (simple_fold c) (simple_fold d)

same_text : (i : Bool) (t s : List ℕ) → Decided (SameText i t s)
same_text i [] [] = inl tt
same_text i [] (d ∷ s) = inr (λ h. h)
same_text i (c ∷ t) [] = inr (λ h. h)
same_text false (c ∷ t) (d ∷ s) = both (cases_eq c d) (same_text false t s)
same_text true (c ∷ t) (d ∷ s) = both (same_fold c d) (same_text true t s)

-- a text of one character
one_char : (P : ℕ → Type 0) → ((c : ℕ) → Decided (P c)) → (s : List ℕ) →
    Decided ((c : ℕ) × (s ≡ c ∷ []) × P c)
one_char P p [] = inr (λ h. (let e = h.1 in cc))
one_char P p (c ∷ []) = yes (λ h. (c, refl, h)) (λ h. subst P (let e = h.1 in cc) h.2) (p c)
one_char P p (c ∷ d ∷ s) = inr (λ h. (let e = h.1 in cc))

-- ---- leaves

wildcard : (b a r : Bool) (s : List ℕ) → Decided (TreeMeans b a r s)
wildcard false false false s = inl tt
wildcard false false true s = begins s
wildcard false true false s = either (same_list s []) (ends s)
wildcard false true true s = both (begins s) (ends s)
wildcard true true false s = both (begins s) (ends s)
wildcard true true true s = both (begins s) (ends s)
wildcard true false false s = either (same_list s []) (begins s)
wildcard true false true s = either (same_list s []) (begins s)

leaf_decided : (l : Leaf) (b a : Bool) (s : List ℕ) → Decided (LeafMeans l b a s)
leaf_decided (literal i t) b a s = same_text i t s
leaf_decided (class negated xs) b a s =
    one_char (λ c. in_class negated xs c ≡ true) (λ c. is_true (in_class negated xs c)) s
leaf_decided separator b a s = same_list s (47 ∷ [])
leaf_decided one b a s = one_char (λ c. c ≢ 47) (λ c. other (cases_eq c 47)) s
leaf_decided (zero_or_more e) b a s = no_slash s
leaf_decided (tree r) b a s = wildcard b a r s

-- ---- copies

module _ (Body : Bool → Bool → List ℕ → Type 0) where
  copies : ((b a : Bool) (x : List ℕ) → Decided (Body b a x)) → (k : ℕ) (b a : Bool) (s : List ℕ) →
      Decided (Copies k Body b a s)
  copies d zero b a s = same_list s []
  copies d (suc zero) b a s = d b a s
  copies d (suc (suc k)) b a s =
      pieces (Body b true) (Copies (suc k) Body true a) (λ x. d b true x) (λ y. copies d (suc k) true a y) s

  -- of more copies in the middle than characters, one is empty and can be dropped
  fewer_after : (k : ℕ) (a : Bool) (y : List ℕ) → length y ≤ k → Copies (suc (suc k)) Body true a y →
      Copies (suc k) Body true a y
  fewer_after zero a y l h = pick h.0 h.2 where
    pick : (x : List ℕ) → y ≡ x ++ h.1 → Copies (suc zero) Body true a y
    pick [] e = subst (λ v. Body true a v) (sym e) h.4
    pick (c ∷ x) e = absurd (let n : length y ≡ suc (length (x ++ h.1)) = ap length e in omega (arith, n, l))
  fewer_after (suc k) a y l h = pick h.0 h.2 h.3 (λ m. fewer_after k a h.1 m h.4) where
    pick : (x : List ℕ) → y ≡ x ++ h.1 → Body true true x →
        (length h.1 ≤ k → Copies (suc k) Body true a h.1) →
        Copies (suc (suc k)) Body true a y
    pick [] e g f = subst (λ v. Copies (suc (suc k)) Body true a v) (sym e) h.4
    pick (c ∷ x) e g f =
        let n : length y ≡ suc (length (x ++ h.1)) = ap length e in
        (c ∷ x, h.1, e, g, f (omega (arith, n, l, length-append x h.1)))

  fewer : (k : ℕ) (b a : Bool) (s : List ℕ) → length s ≤ k → Copies (suc (suc (suc k))) Body b a s →
      Copies (suc (suc k)) Body b a s
  fewer k b a s l h =
      let n : length s ≡ length (h.0 ++ h.1) = ap length h.2 in
      (h.0, h.1, h.2, h.3, fewer_after k a h.1 (omega (arith, n, l, length-append h.0 h.1)) h.4)

  few : (d k : ℕ) (b a : Bool) (s : List ℕ) → length s ≤ k → Copies (d + suc (suc k)) Body b a s →
      Copies (suc (suc k)) Body b a s
  few zero k b a s l h =
      let e : 0 + suc (suc k) ≡ suc (suc k) = omega arith in
      subst (λ v. Copies v Body b a s) e h
  few (suc d) k b a s l h =
      let e : suc d + suc (suc k) ≡ suc (suc (suc (d + k))) = omega arith in
      let f : suc (suc (d + k)) ≡ d + suc (suc k) = omega arith in
      let g = fewer (d + k) b a s (omega (arith, l)) (subst (λ v. Copies v Body b a s) e h) in
      few d k b a s l (subst (λ v. Copies v Body b a s) f g)

at_most : (k : ℕ) (high : Option ℕ) → Decided (AtMost k high)
at_most k None = inl tt
at_most k (Some n) = elim (cases_lt n k) [ inl h ↦ inr (λ l. omega (arith, h, l)) | inr h ↦ inl h ]

at_most_less : (j k : ℕ) (high : Option ℕ) → j ≤ k → AtMost k high → AtMost j high
at_most_less j k None l h = tt
at_most_less j k (Some n) l h = omega (arith, l, h)

module _ (Body : Bool → Bool → List ℕ → Type 0) (d : (b a : Bool) (x : List ℕ) → Decided (Body b a x))
    (low : ℕ) (high : Option ℕ) (b a : Bool) (s : List ℕ) where
  abbrev Counted : ℕ → Type 0
  Counted k = (low ≤ k) × AtMost k high × Copies k Body b a s

  counted : (k : ℕ) → Decided (Counted k)
  counted k =
      yes (λ h. (h.0, h.1.0, h.1.1)) (λ h. (h.0, (h.1, h.2)))
      (both (at_least low k) (both (at_most k high) (copies Body d k b a s)))

  -- more copies than these are as good as these
  abbrev enough : ℕ
  enough = suc (suc (low + length s))

  counted_less : (k : ℕ) → Counted k → (j : ℕ) × (j ≤ enough) × Counted j
  counted_less k h = elim (cases_lt enough k) [
    | inl l ↦ (
        let e : k ≡ (k - enough) + enough = omega (arith, l) in
        let c = subst (λ v. Copies v Body b a s) e h.2 in
        let m : length s ≤ low + length s = omega arith in
        let less = at_most_less enough k high (omega (arith, l)) h.1 in
        (enough, omega arith, (omega arith, less, few Body (k - enough) (low + length s) b a s m c)))
    | inr l ↦ (k, l, h)
  ]

  repeated : Decided ((k : ℕ) × (low ≤ k) × AtMost k high × Copies k Body b a s)
  repeated =
      yes (λ h. (h.0, h.2.0, h.2.1, h.2.2)) (λ h. counted_less h.0 (h.1, h.2, h.3))
      (some_up_to Counted counted enough)

-- ---- trees

mutual
  pub means_decided : {A : Type 0} (t : Tree A) (b a : Bool) (s : List ℕ) → Decided (Means t b a s)
  means_decided (leaf x l) b a s = leaf_decided l b a s
  means_decided (alternation x ts) b a s = some_decided ts b a s
  means_decided (concatenation x ts) b a s = each_decided ts b a s
  means_decided (repetition x t low high) b a s =
      repeated (Means t) (λ c d y. means_decided t c d y) low high b a s

  pub some_decided : {A : Type 0} (ts : Trees A) (b a : Bool) (s : List ℕ) → Decided (MeansSome ts b a s)
  some_decided none b a s = inr (λ h. h)
  some_decided (more t ts) b a s = either (means_decided t b a s) (some_decided ts b a s)

  pub each_decided : {A : Type 0} (ts : Trees A) (b a : Bool) (s : List ℕ) → Decided (MeansEach ts b a s)
  each_decided none b a s = same_list s []
  each_decided (more t none) b a s = means_decided t b a s
  each_decided (more t (more u us)) b a s =
      pieces (Means t b true) (MeansEach (more u us) true a)
      (λ x. means_decided t b true x) (λ y. each_decided (more u us) true a y) s

-- whether the tree means the text, with something before it and after it or not
abbrev pub means_test : {A : Type 0} → Tree A → Bool → Bool → List ℕ → Bool
means_test t before after s = holds (means_decided t before after s)

pub means_tested : {A : Type 0} (t : Tree A) (before after : Bool) (s : List ℕ) →
    IsTrue (means_test t before after s) ↔ Means t before after s
means_tested t before after s = holds_truly (means_decided t before after s)
