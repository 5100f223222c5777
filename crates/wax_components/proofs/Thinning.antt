-- Each text of a tree has one of the thinned tree beside it, with as many `/` and
-- no more of them at the ends.
use Rattle.std.proofs.Common.{if◌then◌else◌, ◌++◌, ◌+◌, ◌==◌, ◌∙◌, ◌∷◌, ◌≡◌, ◌≢◌, ◌≤◌, Bool, List, None}
use Rattle.std.proofs.Common.{Option, Some, ℕ, [], ap, append-nil, arith, false, inl, inr, refl, subst, suc}
use Rattle.std.proofs.Common.{sym, true, zero}
use Rattle.wax_query.specs.Components.{Bare, component_total, first_slash, last_slash, slash, slashes}
use Rattle.wax_query.specs.{Components.{BeginsWithSlash, EndsWithSlash}, Ranges.{AtMost, Bounds}}
use Rattle.wax_token.specs.Meaning.{Copies, HasNoSlash, LeafMeans, Means, MeansEach, MeansSome, in_class}
use Rattle.wax_token.specs.Syntax.{Leaf, Tree, Trees, alternation, class, concatenation, leaf, literal, more}
use Rattle.wax_token.specs.Syntax.{none, one, repetition, separator, tree, zero_or_more}
use Rattle.wax_token.specs.declared.token.Archetype.{Archetype}
use Rattle.wax_components.specs.Bounds.{BoundsComponents}
use Rattle.wax_components.specs.Depth.{Depth, HasComponents, IsGreatest, thinned, thinned_each, thinned_leaf}
use Rattle.wax_components.proofs.{Basics.{is_slash, not_slash}, Shapes.slashes_append}
use Rattle.wax_components.proofs.Singles.{OneCharacter, letter}

pub record Thins (s u : List ℕ) : Type 0 where
  pub number : slashes u ≡ slashes s
  pub first : first_slash u ≤ first_slash s
  pub last : last_slash u ≤ last_slash s
  pub nothing : u ≡ [] → s ≡ []

abbrev pub Thinner : (List ℕ → Type 0) → List ℕ → Type 0
Thinner P s = (u : List ℕ) × P u × Thins s u

itself : (s : List ℕ) → Thins s s
itself s = record { number = refl; first = omega arith; last = omega arith; nothing = λ e. e }

first_append : (x y : List ℕ) → first_slash x ≤ first_slash (x ++ y)
first_append [] y = omega arith
first_append (c ∷ x) y = omega arith

last_append : (x : List ℕ) (d : ℕ) (y : List ℕ) → last_slash (x ++ d ∷ y) ≡ last_slash (d ∷ y)
last_append [] d y = refl
last_append (c ∷ []) d y = refl
last_append (c ∷ e ∷ x) d y = last_append (e ∷ x) d y

last_within : (x y : List ℕ) → last_slash y ≤ last_slash (x ++ y)
last_within x [] = omega arith
last_within x (d ∷ y) = omega (arith, last_append x d y)

thins_append : (x y u v : List ℕ) → Thins x u → Thins y v → Thins (x ++ y) (u ++ v)
thins_append x y u v f g = record {
  number = omega (arith, slashes_append x y, slashes_append u v, f.number, g.number);
  first = firsts u f;
  last = lasts v g;
  nothing = nones u v f g;
}
  where
    firsts : (u : List ℕ) → Thins x u → first_slash (u ++ v) ≤ first_slash (x ++ y)
    firsts [] f = let e : first_slash (x ++ y) ≡ first_slash y =
        ap (λ z. first_slash (z ++ y)) (f.nothing refl) in omega (arith, e, g.first)
    firsts (c ∷ u) f = let le : slash c ≤ first_slash x = f.first in omega (arith, le, first_append x y)

    lasts : (v : List ℕ) → Thins y v → last_slash (u ++ v) ≤ last_slash (x ++ y)
    lasts [] g =
        let e : last_slash (x ++ y) ≡ last_slash x =
        ap (λ z. last_slash (x ++ z)) (g.nothing refl) ∙ ap last_slash (append-nil x) in
        let h : last_slash (u ++ []) ≡ last_slash u = ap last_slash (append-nil u) in
        omega (arith, e, h, f.last)
    lasts (d ∷ v) g = let le : last_slash (d ∷ v) ≤ last_slash y = g.last in
        omega (arith, le, last_append u d v, last_within x y)

    nones : (u v : List ℕ) → Thins x u → Thins y v → u ++ v ≡ [] → x ++ y ≡ []
    nones [] v f g e = ap (λ z. z ++ y) (f.nothing refl) ∙ g.nothing e
    nones (c ∷ u) v f g e = absurd (let k : ⊥ = cc in k)

no_slashes : (s : List ℕ) → HasNoSlash s → slashes s ≡ 0
no_slashes [] h = refl
no_slashes (c ∷ s) h = let e : (c == 47) ≡ false = not_slash c h.0 in
    ap (λ z. (if z then 1 else 0) + slashes s) e
    ∙ (let k : slashes s ≡ 0 = no_slashes s h.1 in omega (arith, k))

in_class_is : (negated : Bool) (xs : List Archetype) (c : ℕ) → in_class negated xs c ≡ true → c ≢ 47
in_class_is negated xs c h e = is_47 c negated xs h (ap (λ z. z == 47) e)
  where
    is_47 : (c : ℕ) (negated : Bool) (xs : List Archetype) → in_class negated xs c ≡ true
        → (c == 47) ≡ true → ⊥
    is_47 c negated xs h e = cc

not_none : (c : ℕ) (s : List ℕ) → c ∷ s ≡ [] → ⊥
not_none c s e = cc

thinned_class : (negated : Bool) (xs : List Archetype) (s : List ℕ)
    → (c : ℕ) × (s ≡ c ∷ []) × (in_class negated xs c ≡ true) → Thinner OneCharacter s
thinned_class negated xs s h = (s, (h.0, h.1, in_class_is negated xs h.0 h.2), itself s)

thinned_star : (s : List ℕ) → HasNoSlash s → Thinner OneCharacter s
thinned_star s h = (
  120 ∷ [],
  (120, refl, letter 120 refl),
  record {
    number = sym (no_slashes s h);
    first = omega arith;
    last = omega arith;
    nothing = λ e. absurd (not_none 120 [] e);
  },
)

thinned_leaf_means : (l : Leaf) (before after : Bool) (s : List ℕ) → LeafMeans l before after s
    → Thinner (LeafMeans (thinned_leaf l) before after) s
thinned_leaf_means (literal insensitive t) before after s h = (s, h, itself s)
thinned_leaf_means (class negated xs) before after s h = thinned_class negated xs s h
thinned_leaf_means separator before after s h = (s, h, itself s)
thinned_leaf_means one before after s h = (s, h, itself s)
thinned_leaf_means (zero_or_more evaluation) before after s h = thinned_star s h
thinned_leaf_means (tree rooted) before after s h = (s, h, itself s)

module _ (Body Thin : Bool → Bool → List ℕ → Type 0)
    (f : (b a : Bool) (s : List ℕ) → Body b a s → Thinner (Thin b a) s) where
  thinned_copies : (k : ℕ) (before after : Bool) (s : List ℕ) → Copies k Body before after s
      → Thinner (Copies k Thin before after) s
  thinned_copies zero before after s h = (s, h, itself s)
  thinned_copies (suc zero) before after s h = f before after s h
  thinned_copies (suc (suc k)) before after s h =
      let x : Thinner (Thin before true) h.0 = f before true h.0 h.3 in
      let y : Thinner (Copies (suc k) Thin true after) h.1 = thinned_copies (suc k) true after h.1 h.4 in (
        x.0 ++ y.0,
        (x.0, y.0, refl, x.1, y.1),
        subst (λ z. Thins z (x.0 ++ y.0)) (sym h.2) (thins_append h.0 h.1 x.0 y.0 x.2 y.2),
      )

mutual
  pub thinned_means : {A : Type 0} (t : Tree A) (before after : Bool) (s : List ℕ) → Means t before after s
      → Thinner (Means (thinned t) before after) s
  thinned_means (leaf a l) before after s h = thinned_leaf_means l before after s h
  thinned_means (alternation a ts) before after s h = thinned_some ts before after s h
  thinned_means (concatenation a ts) before after s h = thinned_every ts before after s h
  thinned_means (repetition a t low high) before after s h =
      let c : Thinner (Copies h.0 (Means (thinned t)) before after) s = thinned_copies (Means t)
      (Means (thinned t)) (λ b f u. thinned_means t b f u) h.0 before after s h.3 in
      (c.0, (h.0, h.1, h.2, c.1), c.2)

  thinned_some : {A : Type 0} (ts : Trees A) (before after : Bool) (s : List ℕ) → MeansSome ts before after s
      → Thinner (MeansSome (thinned_each ts) before after) s
  thinned_some none before after s h = absurd h
  thinned_some (more t ts) before after s (inl h) = let r : Thinner (Means (thinned t) before after) s =
      thinned_means t before after s h in (r.0, inl r.1, r.2)
  thinned_some (more t ts) before after s (inr h) =
      let r : Thinner (MeansSome (thinned_each ts) before after) s =
      thinned_some ts before after s h in (r.0, inr r.1, r.2)

  thinned_every : {A : Type 0} (ts : Trees A) (before after : Bool) (s : List ℕ) → MeansEach ts before after s
      → Thinner (MeansEach (thinned_each ts) before after) s
  thinned_every none before after s h = (s, h, itself s)
  thinned_every (more t none) before after s h = thinned_means t before after s h
  thinned_every (more t (more u us)) before after s h =
      let x : Thinner (Means (thinned t) before true) h.0 = thinned_means t before true h.0 h.3 in
      let y : Thinner (MeansEach (thinned_each (more u us)) true after) h.1 =
      thinned_every (more u us) true after h.1 h.4 in (
        x.0 ++ y.0,
        (x.0, y.0, refl, x.1, y.1),
        subst (λ z. Thins z (x.0 ++ y.0)) (sym h.2) (thins_append h.0 h.1 x.0 y.0 x.2 y.2),
      )

-- ---- the numbers
fewer : (s u : List ℕ) → Thins s u → component_total s ≤ component_total u
fewer [] u h = omega arith
fewer (c ∷ s) [] h = absurd (let e : c ∷ s ≡ [] = h.nothing refl in let k : ⊥ = cc in k)
fewer (c ∷ s) (d ∷ u) h = omega (arith, h.number, h.first, h.last)

abbrev Zero : ℕ → Type 0
Zero n = n ≡ 0

first_none : (s : List ℕ) → (BeginsWithSlash s → ⊥) → first_slash s ≡ 0
first_none [] h = refl
first_none (c ∷ s) h = elim (c == 47) as (λ b. (c == 47) ≡ b → Zero (if b then 1 else 0)) [
  | true ↦ λ e. absurd (h (s, ap (λ z. z ∷ s) (is_slash c e)))
  | false ↦ λ e. refl
] refl

last_none : (s : List ℕ) → (EndsWithSlash s → ⊥) → last_slash s ≡ 0
last_none [] h = refl
last_none (c ∷ []) h = elim (c == 47) as (λ b. (c == 47) ≡ b → Zero (if b then 1 else 0)) [
  | true ↦ λ e. absurd (h ([], ap (λ z. z ∷ []) (is_slash c e)))
  | false ↦ λ e. refl
] refl
last_none (c ∷ d ∷ s) h = last_none (d ∷ s) (λ e. h (c ∷ e.0, ap (λ z. c ∷ z) e.1))

as_many : (s u : List ℕ) → Bare s → Thins s u → component_total u ≡ component_total s
as_many [] u b h = absurd (b.0 refl)
as_many (c ∷ s) [] b h = absurd (let e : c ∷ s ≡ [] = h.nothing refl in let k : ⊥ = cc in k)
as_many (c ∷ s) (d ∷ u) b h =
    let f : first_slash (c ∷ s) ≡ 0 = first_none (c ∷ s) b.1 in
    let l : last_slash (c ∷ s) ≡ 0 = last_none (c ∷ s) b.2 in
    omega (arith, h.number, h.first, h.last, f, l)

most_components : (X : ℕ → Type 0) (h : Option ℕ) (m n : ℕ) → IsGreatest X h → X n → m ≤ n → AtMost m h
most_components X None m n g x le = tt
most_components X (Some high) m n g x le = let k : n ≤ high = g.1 n x in omega (arith, k, le)

pub depth_bounds : {A : Type 0} (t : Tree A) (r : Bounds) → Depth t r → BoundsComponents t r
depth_bounds t r (inl h) = record {
  least = λ s m b. let u : Thinner (Means (thinned t) false false) s = thinned_means t false false s m in
      let le : r.0 ≤ component_total u.0 = h.0.1 (component_total u.0) (u.0, u.1, refl) in
      omega (arith, le, as_many s u.0 b u.2);
  greatest = λ s m. let u : Thinner (Means (thinned t) false false) s = thinned_means t false false s m in
      most_components (HasComponents t) r.1 (component_total s) (component_total u.0) h.1
      (u.0, u.1, refl) (fewer s u.0 u.2);
}
depth_bounds t r (inr h) = record {
  least = λ s m b. let u : Thinner (Means (thinned t) false false) s = thinned_means t false false s m in
      absurd (h.0 (component_total u.0) (u.0, u.1, refl));
  greatest = λ s m. let u : Thinner (Means (thinned t) false false) s = thinned_means t false false s m in
      absurd (h.0 (component_total u.0) (u.0, u.1, refl));
}
