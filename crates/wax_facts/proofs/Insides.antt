-- Which sub-glob the rest belongs to.
use Rattle.std.proofs.Common.{◌≡◌, ℕ, zero, suc, ◌-◌, ◌<◌, ◌≤◌, ◌||◌, nat_lt, Bool, true, false, List, []}
use Rattle.std.proofs.Common.{◌∷◌, ◌++◌, length, Option, Some, None, if◌then◌else◌, refl, sym, ◌∙◌, ap, subst}
use Rattle.std.proofs.Common.{arith, rules, length-append, drop, min}
use Rattle.wax_token.specs.Syntax.{tree_size, trees_size, Tree, leaf, alternation, concatenation, repetition}
use Rattle.wax_token.specs.{Syntax.{Trees, none, more}, Words.{members, trees}}
use Rattle.wax_facts.specs.Prefix.{opened}
use Rattle.wax_facts.specs.Rest.{after, begins_with_tree, entered, or_here, inner_cut, inner_last, owner}
use Rattle.wax_facts.specs.Orderly.{Flat, FlatEach, is_token}
use Rattle.wax_facts.specs.inner.Bodies.{open_body, last_body, entered_body, inside}
use Rattle.wax_facts.proofs.Truths.{false_true}

-- ---- by the last token and those before it
in_more : {A : Type 0} (t : Tree A) (ts : List (Tree A)) (n : ℕ) → 0 < length ts
    → inside (more t (trees ts)) (suc n) ≡ inside (trees ts) n
in_more t [] n lt = absurd (omega (arith, lt))
in_more t (u ∷ us) n lt = refl

in_none : {A : Type 0} (t : Tree A) (ts : List (Tree A)) → 0 < length ts → inside (more t (trees ts)) 0 ≡ None
in_none t [] lt = absurd (omega (arith, lt))
in_none t (u ∷ us) lt = refl

some_length : {A : Type 0} (xs : List A) (x : A) → 0 < length (xs ++ x ∷ [])
some_length xs x = omega (arith, length-append xs (x ∷ []))

at_last : {A : Type 0} (before : List (Tree A)) (last : Tree A) (n : ℕ) → length before ≤ n →
    inside (trees (before ++ last ∷ [])) n ≡ entered_body (n - length before) (open_body last)
at_last [] last n le = let e : n ≡ n - 0 = omega arith in ap (λ k. entered_body k (open_body last)) e
at_last (b ∷ bs) last zero le = absurd (omega (arith, le))
at_last (b ∷ bs) last (suc n) le =
    let e : suc n - suc (length bs) ≡ n - length bs = omega arith in
    in_more b (bs ++ last ∷ []) n (some_length bs last) ∙ at_last bs last n (omega (arith, le))
    ∙ ap (λ k. entered_body k (open_body last)) (sym e)

before_last : {A : Type 0} (before : List (Tree A)) (last : Tree A) (n : ℕ) → n < length before
    → inside (trees (before ++ last ∷ [])) n ≡ None
before_last [] last n lt = absurd (omega (arith, lt))
before_last (b ∷ bs) last zero lt = in_none b (bs ++ last ∷ []) (some_length bs last)
before_last (b ∷ bs) last (suc n) lt = in_more b (bs ++ last ∷ []) n (some_length bs last)
    ∙ before_last bs last n (omega (arith, lt))

pub inside_last : {A : Type 0} (ts before : List (Tree A)) (last : Tree A) (n : ℕ) → ts ≡ before ++ last ∷ []
    → length before ≤ n →
    inside (trees ts) n ≡ entered_body (n - length before) (open_body last)
inside_last ts before last n e le = ap (λ z. inside (trees z) n) e ∙ at_last before last n le

pub inside_before : {A : Type 0} (ts before : List (Tree A)) (last : Tree A) (n : ℕ)
    → ts ≡ before ++ last ∷ [] → n < length before → inside (trees ts) n ≡ None
inside_before ts before last n e lt = ap (λ z. inside (trees z) n) e ∙ before_last before last n lt

pub entered_yes : {A : Type 0} (n : ℕ) (b : Tree A) → (nat_lt 0 n || begins_with_tree (opened b)) ≡ true
    → entered_body n (Some b) ≡ Some (b, n)
entered_yes n b e = ap (λ z. if z then Some (b, n) else None) e

pub entered_no : {A : Type 0} (n : ℕ) (b : Tree A) → (nat_lt 0 n || begins_with_tree (opened b)) ≡ false
    → entered_body n (Some b) ≡ None
entered_no n b e = ap (λ z. if z then Some (b, n) else None) e

-- the last token's sub-glob
last_more : {A : Type 0} (t : Tree A) (ts : List (Tree A)) → 0 < length ts
    → last_body (more t (trees ts)) ≡ last_body (trees ts)
last_more t [] lt = absurd (omega (arith, lt))
last_more t (u ∷ us) lt = refl

last_at : {A : Type 0} (before : List (Tree A)) (last : Tree A)
    → last_body (trees (before ++ last ∷ [])) ≡ open_body last
last_at [] last = refl
last_at (b ∷ bs) last = last_more b (bs ++ last ∷ []) (some_length bs last) ∙ last_at bs last

pub last_is_body : {A : Type 0} (ts before : List (Tree A)) (last : Tree A) → ts ≡ before ++ last ∷ []
    → last_body (trees ts) ≡ open_body last
last_is_body ts before last e = ap (λ z. last_body (trees z)) e ∙ last_at before last

body_entered : {A : Type 0} (n : ℕ) (o : Option (Tree A)) (b : Tree A) (k : ℕ)
    → entered_body n o ≡ Some (b, k) → o ≡ Some b
body_entered n None b k e = absurd (let f : ⊥ = cc in f)
body_entered n (Some c) b k e = ap Some (by (nat_lt 0 n || begins_with_tree (opened c)) (c, n) (b, k) e)
  where
    by : {B : Type 0} (z : Bool) (x y : B × ℕ) → (if z then Some x else None) ≡ Some y → x.0 ≡ y.0
    by true x y f = let g : x ≡ y = cc in ap (λ z. z.0) g
    by false x y f = absurd (let g : ⊥ = cc in g)

-- where a sub-glob is entered, it is the last token's
pub inside_body : {A : Type 0} (ts : Trees A) (n : ℕ) (b : Tree A) (k : ℕ) → inside ts n ≡ Some (b, k)
    → last_body ts ≡ Some b
inside_body none n b k e = absurd (let f : ⊥ = cc in f)
inside_body (more t none) n b k e = body_entered n (open_body t) b k e
inside_body (more t (more u us)) zero b k e = absurd (let f : ⊥ = cc in f)
inside_body (more t (more u us)) (suc n) b k e = inside_body (more u us) n b k e

-- ---- the owner by one step
abbrev pub owner_of : {A : Type 0} → Tree A × ℕ → Option (Tree A × ℕ) → Tree A × ℕ
owner_of here None = here
owner_of here (Some x) = owner x.0 x.1

abbrev inner_of : {A : Type 0} → Option (Tree A × ℕ) → Option (Tree A × ℕ)
inner_of None = None
inner_of (Some x) = Some (owner x.0 x.1)

enter : {A : Type 0} (n : ℕ) (b : Tree A) → entered n (begins_with_tree (opened b)) (owner b n)
    ≡ inner_of (entered_body n (Some b))
enter zero b = by (begins_with_tree (opened b)) refl
  where
    by : (z : Bool) → begins_with_tree (opened b) ≡ z
        → entered zero z (owner b zero) ≡ inner_of (if z then Some (b, zero) else None)
    by true e = refl
    by false e = refl
enter (suc n) b = let e : nat_lt 0 (suc n) ≡ true = search rules in
    ap inner_of (sym (entered_yes (suc n) b (ap (λ z. z || begins_with_tree (opened b)) e)))

token_inner : {A : Type 0} (t : Tree A) → is_token t ≡ true → (n : ℕ)
    → inner_cut t n ≡ inner_of (entered_body n (open_body t))
token_inner (leaf a l) w n = refl
token_inner (alternation a none) w n = refl
token_inner (alternation a (more t none)) w n = enter n t
token_inner (alternation a (more t (more u us))) w n = refl
token_inner (concatenation a ts) w n = absurd (false_true w)
token_inner (repetition a t zero high) w n = refl
token_inner (repetition a t (suc zero) None) w n = refl
token_inner (repetition a t (suc zero) (Some zero)) w n = refl
token_inner (repetition a t (suc zero) (Some (suc zero))) w n = enter n t
token_inner (repetition a t (suc zero) (Some (suc (suc m)))) w n = refl
token_inner (repetition a t (suc (suc low)) high) w n = refl

last_inner : {A : Type 0} (ts : Trees A) → FlatEach ts → (n : ℕ) → inner_last ts n ≡ inner_of (inside ts n)
last_inner none w n = refl
last_inner (more t none) w n = token_inner t w.0 n
last_inner (more t (more u us)) w zero = refl
last_inner (more t (more u us)) w (suc n) = last_inner (more u us) w.2 n

flat_inner : {A : Type 0} (t : Tree A) → Flat t → (n : ℕ) → inner_cut t n ≡ inner_of (inside (members t) n)
flat_inner (leaf a l) w n = token_inner (leaf a l) refl n
flat_inner (alternation a ts) w n = token_inner (alternation a ts) refl n
flat_inner (concatenation a ts) w n = last_inner ts w n
flat_inner (repetition a t low high) w n = token_inner (repetition a t low high) refl n

pub owner_step : {A : Type 0} (t : Tree A) → Flat t → (n : ℕ)
    → owner t n ≡ owner_of (t, n) (inside (members t) n)
owner_step {A = A} t w n = ap (or_here (t, n)) (flat_inner t w n) ∙ here (inside (members t) n)
  where
    here : (o : Option (Tree A × ℕ)) → or_here (t, n) (inner_of o) ≡ owner_of (t, n) o
    here None = refl
    here (Some x) = refl

-- ---- a flat tree's sub-glob is flat
body_flat : {A : Type 0} (t : Tree A) → Flat t → (b : Tree A) → open_body t ≡ Some b → Flat b
body_flat (leaf a l) w b e = absurd (let f : ⊥ = cc in f)
body_flat (alternation a none) w b e = absurd (let f : ⊥ = cc in f)
body_flat (alternation a (more t none)) w b e = subst Flat (let f : t ≡ b = cc in f) w.0
body_flat (alternation a (more t (more u us))) w b e = absurd (let f : ⊥ = cc in f)
body_flat (concatenation a ts) w b e = absurd (let f : ⊥ = cc in f)
body_flat (repetition a t zero high) w b e = absurd (let f : ⊥ = cc in f)
body_flat (repetition a t (suc zero) None) w b e = absurd (let f : ⊥ = cc in f)
body_flat (repetition a t (suc zero) (Some zero)) w b e = absurd (let f : ⊥ = cc in f)
body_flat (repetition a t (suc zero) (Some (suc zero))) w b e = subst Flat (let f : t ≡ b = cc in f) w
body_flat (repetition a t (suc zero) (Some (suc (suc m)))) w b e = absurd (let f : ⊥ = cc in f)
body_flat (repetition a t (suc (suc low)) high) w b e = absurd (let f : ⊥ = cc in f)

each_flat : {A : Type 0} (ts : Trees A) → FlatEach ts → (b : Tree A) → last_body ts ≡ Some b → Flat b
each_flat none w b e = absurd (let f : ⊥ = cc in f)
each_flat (more t none) w b e = body_flat t w.1 b e
each_flat (more t (more u us)) w b e = each_flat (more u us) w.2 b e

pub last_flat : {A : Type 0} (t : Tree A) → Flat t → (b : Tree A) → last_body (members t) ≡ Some b → Flat b
last_flat (leaf a l) w b e = absurd (let f : ⊥ = cc in f)
last_flat (alternation a ts) w b e = body_flat (alternation a ts) w b e
last_flat (concatenation a ts) w b e = each_flat ts w b e
last_flat (repetition a t low high) w b e = body_flat (repetition a t low high) w b e

-- ---- and smaller
body_smaller : {A : Type 0} (t b : Tree A) → open_body t ≡ Some b → tree_size b < tree_size t
body_smaller (leaf a l) b e = absurd (let f : ⊥ = cc in f)
body_smaller (alternation a none) b e = absurd (let f : ⊥ = cc in f)
body_smaller (alternation a (more t none)) b e = let g : tree_size t ≡ tree_size b =
    ap tree_size (let f : t ≡ b = cc in f) in omega (arith, g)
body_smaller (alternation a (more t (more u us))) b e = absurd (let f : ⊥ = cc in f)
body_smaller (concatenation a ts) b e = absurd (let f : ⊥ = cc in f)
body_smaller (repetition a t zero high) b e = absurd (let f : ⊥ = cc in f)
body_smaller (repetition a t (suc zero) None) b e = absurd (let f : ⊥ = cc in f)
body_smaller (repetition a t (suc zero) (Some zero)) b e = absurd (let f : ⊥ = cc in f)
body_smaller (repetition a t (suc zero) (Some (suc zero))) b e = let g : tree_size t ≡ tree_size b =
    ap tree_size (let f : t ≡ b = cc in f) in omega (arith, g)
body_smaller (repetition a t (suc zero) (Some (suc (suc m)))) b e = absurd (let f : ⊥ = cc in f)
body_smaller (repetition a t (suc (suc low)) high) b e = absurd (let f : ⊥ = cc in f)

last_smaller : {A : Type 0} (ts : Trees A) (b : Tree A) → last_body ts ≡ Some b → tree_size b < trees_size ts
last_smaller none b e = absurd (let f : ⊥ = cc in f)
last_smaller (more t none) b e = omega (arith, body_smaller t b e)
last_smaller (more t (more u us)) b e = omega (arith, last_smaller (more u us) b e)

member_smaller : {A : Type 0} (t b : Tree A) → last_body (members t) ≡ Some b → tree_size b < tree_size t
member_smaller (leaf a l) b e = absurd (let f : ⊥ = cc in f)
member_smaller (alternation a ts) b e = body_smaller (alternation a ts) b e
member_smaller (concatenation a ts) b e = omega (arith, last_smaller ts b e)
member_smaller (repetition a t low high) b e = body_smaller (repetition a t low high) b e

pub rest_smaller : {A : Type 0} (t : Tree A) (ts : Trees A) (o : Option (Tree A)) (b : Tree A)
    → ts ≡ members t → o ≡ last_body ts → o ≡ Some b → tree_size b < tree_size t
rest_smaller t ts o b e f g = member_smaller t b (ap last_body (sym e) ∙ sym f ∙ g)

-- ---- tokens left out
pub after_drop : {A : Type 0} (n : ℕ) (ts : List (Tree A)) → after n (trees ts) ≡ trees (drop n ts)
after_drop zero ts = refl
after_drop (suc n) [] = refl
after_drop (suc n) (t ∷ ts) = after_drop n ts

pub drop_min : {A : Type 0} (n : ℕ) (ts : List A) → drop (min n (length ts)) ts ≡ drop n ts
drop_min zero ts = let e : min zero (length ts) ≡ zero = omega arith in ap (λ k. drop k ts) e
drop_min (suc n) [] = let e : min (suc n) 0 ≡ 0 = omega arith in ap (λ k. drop k []) e
drop_min (suc n) (t ∷ ts) = let e : min (suc n) (suc (length ts)) ≡ suc (min n (length ts)) = omega arith in
    ap (λ k. drop k (t ∷ ts)) e ∙ drop_min n ts
