-- The names of a matching text match the components at their positions.
use Rattle.std.proofs.Common.{◌≡◌, ℕ, Bool, true, false, ◌||◌, ◌⊎◌, cond, List, [], ◌∷◌, ◌++◌, refl, sym, ap}
use Rattle.std.proofs.Common.{subst, ◌∙◌, inl, inr, append-nil}
use Rattle.wax_token.specs.Kinds.{is_separator, is_tree_wildcard, has_boundary, some_has_boundary}
use Rattle.wax_token.specs.Meaning.{HasNoSlash, Means, MeansEach}
use Rattle.wax_token.specs.Spelled.{LiteralsHaveNoSlash, AllHaveNoSlash}
use Rattle.wax_token.specs.Syntax.{separator, tree, Tree, leaf, Trees, none, more}
use Rattle.wax_exclude.proofs.Components.{Sort, separates, wild, plain, sort, onto, rows, until_boundary}
use Rattle.wax_exclude.proofs.Components.{leading_rows, RowsLead, none_either, either_right, rows_onto}
use Rattle.wax_exclude.proofs.{Components.rows_alone, Unslashed.{freed, freed_each, unslashed, no_slash_back}}
use Rattle.wax_query.specs.Below.{slashed, AreNames}

-- ---- where a text is cut

-- a beginning without `/` of names that are joined lies within the first
cut : (x y n : List ℕ) (names : List (List ℕ)) → HasNoSlash x → x ++ y ≡ n ++ slashed names
    → (m : List ℕ) × (n ≡ x ++ m) × (y ≡ m ++ slashed names)
cut [] y n names h e = (n, refl, e)
cut (c ∷ x) y [] [] h e = cc
cut (c ∷ x) y [] (m ∷ ms) h e = let k : c ≡ 47 = cc in absurd (h.0 k)
cut (c ∷ x) y (d ∷ n) names h e =
    let k : c ≡ d = cc in
    let r = cut x y n names h.1 (cc) in
    (r.0, ap (λ z. d ∷ z) r.1 ∙ ap (λ z. z ∷ (x ++ r.0)) (sym k), r.2)

-- a text that begins with `/` has its first name empty
empty_before : (n z : List ℕ) (names : List (List ℕ)) → HasNoSlash n → 47 ∷ z ≡ n ++ slashed names → n ≡ []
empty_before [] z names h e = refl
empty_before (c ∷ n) z names h e = let k : c ≡ 47 = cc in absurd (h.0 k)

nothing_left : (n : List ℕ) (names : List (List ℕ)) → [] ≡ n ++ slashed names → n ≡ []
nothing_left [] names e = refl
nothing_left (c ∷ n) names e = cc

-- ---- the components of tokens

hold_one : {A : Type 0} (t : Tree A) → has_boundary t ≡ true → some_has_boundary (more t none) ≡ true
hold_one t e = ap (λ v. v || false) e

hold_first : {A : Type 0} (t : Tree A) (c : Trees A) → has_boundary t ≡ true
    → some_has_boundary (more t c) ≡ true
hold_first t c e = ap (λ v. v || some_has_boundary c) e

stop : {A : Type 0} (c : Trees A) (cs : List (Trees A)) → some_has_boundary c ≡ true
    → until_boundary (c ∷ cs) ≡ []
stop c cs e = ap (λ v. cond v [] (c ∷ until_boundary cs)) e

go_on : {A : Type 0} (c : Trees A) (cs : List (Trees A)) → some_has_boundary c ≡ false
    → until_boundary (c ∷ cs) ≡ c ∷ until_boundary cs
go_on c cs e = ap (λ v. cond v [] (c ∷ until_boundary cs)) e

stop_onto : {A : Type 0} (t : Tree A) (cs : List (Trees A)) → has_boundary t ≡ true
    → until_boundary (onto t cs) ≡ []
stop_onto t [] e = stop (more t none) [] (hold_one t e)
stop_onto t (c ∷ cs) e = stop (more t c) cs (hold_first t c e)

stop_either : {A : Type 0} (t : Tree A) (b : Bool) (cs : List (Trees A)) → has_boundary t ≡ true
    → until_boundary (cond b (more t none ∷ cs) (onto t cs)) ≡ []
stop_either t true cs e = stop (more t none) cs (hold_one t e)
stop_either t false cs e = stop_onto t cs e

-- nothing leads past a token that holds a boundary
leading_stops : {A : Type 0} (t : Tree A) (ts : Trees A) → is_separator t ≡ false → has_boundary t ≡ true
    → leading_rows (more t ts) ≡ []
leading_stops t none e h = ap (λ v. until_boundary (cond v [] (more t none ∷ []))) e
    ∙ stop (more t none) [] (hold_one t h)
leading_stops t (more u us) e h =
    ap (λ v. until_boundary (cond v (rows (more u us))
    (cond (is_tree_wildcard t || (is_separator u || is_tree_wildcard u)) (more t none ∷ rows (more u us))
    (onto t (rows (more u us)))))) e
    ∙ stop_either t (is_tree_wildcard t || (is_separator u || is_tree_wildcard u)) (rows (more u us)) h

abbrev first_separates : {A : Type 0} → Trees A → Bool
first_separates none = false
first_separates (more t ts) = is_separator t

-- one token more of the component that the name is meant by
component_joined : {A : Type 0} (t : Tree A) (c : Trees A) (b : Bool) (n x m : List ℕ) → n ≡ x ++ m
    → has_boundary t ≡ false → some_has_boundary c ≡ false → Means t b true x → MeansEach c false false m
    → MeansEach (more t c) false false n
component_joined t none b n x m e h k f g = freed t b true false false n h
    (subst (λ v. Means t b true v) (sym (e ∙ ap (λ v. x ++ v) g ∙ append-nil x)) f)
component_joined t (more u us) b n x m e h k f g =
    (x, m, e, freed t b true false true x h f, freed_each (more u us) false false true false m k g)

abbrev Leads : {A : Type 0} → Trees A → List ℕ → List (List ℕ) → Type 0
Leads ts n names = RowsLead (leading_rows ts) (n ∷ names)

unled : {A : Type 0} (ts : Trees A) (names : List (List ℕ)) → leading_rows ts ≡ []
    → RowsLead (leading_rows ts) names
unled ts names e = subst (λ v. RowsLead v names) (sym e) tt

-- a text that a boundary begins, after something, is empty or begins with `/`
begins_wild : {A : Type 0} (x : A) (rooted : Bool) (us : Trees A) (a : Bool) (s : List ℕ)
    → MeansEach (more (leaf x (tree rooted)) us) true a s → (s ≡ []) ⊎ ((z : List ℕ) × (s ≡ 47 ∷ z))
begins_wild x rooted none true s h = inr (h.0.0, h.0.1)
begins_wild x rooted none false s h = elim h [ inl e ↦ inl e | inr b ↦ inr (b.0, b.1) ]
begins_wild x rooted (more v vs) a s h = inr (h.3.0.0 ++ h.1, h.2 ∙ ap (λ z. z ++ h.1) h.3.0.1)

module _ {A : Type 0} where
  -- the last token
  lead_last : (t : Tree A) (b a : Bool) (n : List ℕ) (names : List (List ℕ)) → LiteralsHaveNoSlash t → Sort t
      → Means t b a (n ++ slashed names) → (h : Bool) → has_boundary t ≡ h → Leads (more t none) n names
  lead_last t b a n names p (separates x e) m h k = rw e tt
  lead_last t b a n names p (wild x r e) m h k = rw e tt
  lead_last t b a n names p (plain e f) m true k = unled (more t none) (n ∷ names) (leading_stops t none e k)
  lead_last t b a n names p (plain e f) m false k =
      let s = n ++ slashed names in
      let c = cut s [] n names (unslashed t b a s k p m) (append-nil s) in
      let i : n ≡ s = c.1 ∙ ap (λ v. s ++ v) (nothing_left c.0 names c.2) ∙ append-nil s in
      subst (λ v. RowsLead v (n ∷ names)) (sym (ap (λ v. until_boundary (cond v [] (more t none ∷ []))) e
      ∙ go_on (more t none) [] (ap (λ v. v || false) k)))
      (freed t b a false false n k (subst (λ v. Means t b a v) (sym i) m), tt)

  abbrev LeadsAlways : Trees A → Type 0
  LeadsAlways ts = (b a : Bool) (n : List ℕ) (names : List (List ℕ)) → AllHaveNoSlash ts → HasNoSlash n
      → AreNames names → (first_separates ts ≡ true → ¬ (n ≡ []))
      → MeansEach ts b a (n ++ slashed names) → Leads ts n names

  sep_splits : (z : A) (us : Trees A) (b a : Bool) (y : List ℕ) → MeansEach (more (leaf z separator) us) b a y
      → (w : List ℕ) × (y ≡ 47 ∷ w) × MeansEach us true a w
  sep_splits z none b a y h = ([], h, refl)
  sep_splits z (more v vs) b a y h = (h.1, h.2 ∙ ap (λ v. v ++ h.1) h.3, h.4)

  pub sep_leads : (z : A) (us : Trees A) → leading_rows (more (leaf z separator) us) ≡ leading_rows us
  sep_leads z none = refl
  sep_leads z (more v vs) = refl

  no_names : (cs : List (Trees A)) → RowsLead cs []
  no_names [] = tt
  no_names (c ∷ cs) = tt

  -- after a separator the next name comes
  lead_next : (us : Trees A) (a : Bool) (w : List ℕ) (names : List (List ℕ)) → LeadsAlways us
      → AllHaveNoSlash us → AreNames names → 47 ∷ w ≡ slashed names → MeansEach us true a w
      → RowsLead (leading_rows us) names
  lead_next us a w [] ih p r e h = no_names (leading_rows us)
  lead_next us a w (k ∷ ks) ih p r e h = ih true a k ks p r.1 r.2 (λ i. r.0)
      (subst (λ v. MeansEach us true a v) (cc) h)

  -- a token before a boundary is the component of the first name
  lead_alone : (t u : Tree A) (us : Trees A) (b : Bool) (n x : List ℕ) (names : List (List ℕ))
      → is_separator t ≡ false → has_boundary t ≡ false → (is_separator u || is_tree_wildcard u) ≡ true
      → n ≡ x → Means t b true x → RowsLead (leading_rows (more u us)) names
      → Leads (more t (more u us)) n names
  lead_alone t u us b n x names e k g i m h =
      subst (λ v. RowsLead v (n ∷ names)) (sym (ap until_boundary (rows_alone t u us e g)
      ∙ go_on (more t none) (rows (more u us)) (ap (λ v. v || false) k)))
      (freed t b true false false n k (subst (λ v. Means t b true v) (sym i) m), h)

  some_onto : (t : Tree A) (cs : List (Trees A))
      → (c : Trees A) × (ds : List (Trees A)) × (onto t cs ≡ c ∷ ds)
  some_onto t [] = (more t none, [], refl)
  some_onto t (c ∷ cs) = (more t c, cs, refl)

  some_either : (t : Tree A) (b : Bool) (cs : List (Trees A))
      → (c : Trees A) × (ds : List (Trees A)) × (cond b (more t none ∷ cs) (onto t cs) ≡ c ∷ ds)
  some_either t true cs = (more t none, cs, refl)
  some_either t false cs = some_onto t cs

  some_component : (t : Tree A) (ts : Trees A) → is_separator t ≡ false
      → (c : Trees A) × (cs : List (Trees A)) × (rows (more t ts) ≡ c ∷ cs)
  some_component t none e = (more t none, [], ap (λ v. cond v [] (more t none ∷ [])) e)
  some_component t (more u us) e =
      let b = is_tree_wildcard t || (is_separator u || is_tree_wildcard u) in
      let r = some_either t b (rows (more u us)) in (
        r.0,
        r.1,
        ap (λ v. cond v (rows (more u us))
            (cond b (more t none ∷ rows (more u us)) (onto t (rows (more u us))))) e ∙ r.2,
      )

  -- a token that joins the component of the first name
  lead_joins : (t : Tree A) (c : Trees A) (cs : List (Trees A)) (b : Bool) (n x m : List ℕ)
      (names : List (List ℕ)) → has_boundary t ≡ false → n ≡ x ++ m → Means t b true x
      → (h : Bool) → some_has_boundary c ≡ h → RowsLead (until_boundary (c ∷ cs)) (m ∷ names)
      → RowsLead (until_boundary (more t c ∷ cs)) (n ∷ names)
  lead_joins t c cs b n x m names k i g true h l =
      subst (λ v. RowsLead v (n ∷ names)) (sym (stop (more t c) cs
      (either_right (has_boundary t) (some_has_boundary c) h))) tt
  lead_joins t c cs b n x m names k i g false h l =
      let l' : RowsLead (c ∷ until_boundary cs) (m ∷ names) =
      subst (λ v. RowsLead v (m ∷ names)) (go_on c cs h) l in
      subst (λ v. RowsLead v (n ∷ names)) (sym (go_on (more t c) cs
      (none_either (has_boundary t) (some_has_boundary c) k h)))
      (component_joined t c b n x m i k h g l'.0, l'.1)

  -- the first token means x, and m is left of the first name
  lead_rest : (t u : Tree A) (us : Trees A) → LeadsAlways (more u us) → LeadsAlways us
      → (b a : Bool) (n x y m : List ℕ) (names : List (List ℕ)) → AllHaveNoSlash (more u us)
      → is_separator t ≡ false → is_tree_wildcard t ≡ false → has_boundary t ≡ false
      → n ≡ x ++ m → y ≡ m ++ slashed names → HasNoSlash m → AreNames names → Means t b true x
      → MeansEach (more u us) true a y → Sort u → Leads (more t (more u us)) n names
  lead_rest t u us here next b a n x y m names p e f k i j q r g h (separates z s) =
      let o = sep_splits z us true a y (subst (λ v. MeansEach (more v us) true a y) s h) in
      let d : m ≡ [] = empty_before m o.0 names q (sym o.1 ∙ j) in
      lead_alone t u us b n x names e k (ap (λ v. is_separator v || is_tree_wildcard v) s)
      (i ∙ ap (λ v. x ++ v) d ∙ append-nil x) g
      (subst (λ v. RowsLead v names) (sym (ap (λ v. leading_rows (more v us)) s ∙ sep_leads z us))
      (lead_next us a o.0 names next p.1 r (sym o.1 ∙ j ∙ ap (λ v. v ++ slashed names) d) o.2))
  lead_rest t u us here next b a n x y m names p e f k i j q r g h (wild z rooted s) =
      let d : m ≡ [] = elim (begins_wild z rooted us a y (subst (λ v. MeansEach (more v us) true a y) s h)) [
        | inl w ↦ nothing_left m names (sym w ∙ j)
        | inr w ↦ empty_before m w.0 names q (sym w.1 ∙ j)
      ] in
      lead_alone t u us b n x names e k (ap (λ v. is_separator v || is_tree_wildcard v) s)
      (i ∙ ap (λ v. x ++ v) d ∙ append-nil x) g
      (unled (more u us) names (leading_stops u us (ap is_separator s) (ap has_boundary s)))
  lead_rest t u us here next b a n x y m names p e f k i j q r g h (plain s v) =
      let c = some_component u us s in
      let l : Leads (more u us) m names = here true a m names p q r
      (λ w. (let z : true ≡ false = sym w ∙ s in cc)) (subst (λ w. MeansEach (more u us) true a w) j h) in
      subst (λ w. RowsLead w (n ∷ names)) (sym (ap until_boundary
      (rows_onto t u us e f s v ∙ ap (onto t) c.2)))
      (lead_joins t c.0 c.1 b n x m names k i g (some_has_boundary c.0) refl
      (subst (λ w. RowsLead (until_boundary w) (m ∷ names)) c.2 l))

  lead_more : (t u : Tree A) (us : Trees A) → LeadsAlways (more u us) → LeadsAlways us
      → (b a : Bool) (n : List ℕ) (names : List (List ℕ)) → AllHaveNoSlash (more t (more u us)) → HasNoSlash n
      → AreNames names → (is_separator t ≡ true → ¬ (n ≡ []))
      → MeansEach (more t (more u us)) b a (n ++ slashed names) → Sort t → (h : Bool) → has_boundary t ≡ h
      → Leads (more t (more u us)) n names
  lead_more t u us here next b a n names p q r w m (separates x e) h k =
      let i : m.0 ≡ 47 ∷ [] = subst (λ v. Means v b true m.0) e m.3 in
      absurd (w (ap is_separator e) (empty_before n m.1 names q (sym (ap (λ v. v ++ m.1) i) ∙ sym m.2)))
  lead_more t u us here next b a n names p q r w m (wild x z e) h k =
      unled (more t (more u us)) (n ∷ names) (leading_stops t (more u us) (ap is_separator e)
      (ap has_boundary e))
  lead_more t u us here next b a n names p q r w m (plain e f) true k =
      unled (more t (more u us)) (n ∷ names) (leading_stops t (more u us) e k)
  lead_more t u us here next b a n names p q r w m (plain e f) false k =
      let c = cut m.0 m.1 n names (unslashed t b true m.0 k p.0 m.3) (sym m.2) in
      lead_rest t u us here next b a n m.0 m.1 c.0 names p.1 e f k c.1 c.2
      (no_slash_back m.0 c.0 (subst HasNoSlash c.1 q)) r m.3 m.4 (sort u)

  -- the names of a matching text match the leading rows of the tokens
  pub lead : (ts : Trees A) → LeadsAlways ts
  lead none b a n names p q r w m = tt
  lead (more t none) b a n names p q r w m = lead_last t b a n names p.0 (sort t) m (has_boundary t) refl
  lead (more t (more u us)) b a n names p q r w m =
      lead_more t u us (lead (more u us)) (lead us) b a n names p q r w m (sort t) (has_boundary t) refl
