-- What is left of a walk without what is below some of its items.
use Rattle.std.proofs.Common.{◌≡◌, Bool, true, false, ◌||◌, cond, List, [], ◌∷◌, ◌++◌, refl, sym, ap, ◌∙◌}
use Rattle.std.proofs.lemmas.List.Elements.{filter-append}
use Rattle.std.specs.Prelude.{filter, ⊤}
use Rattle.wax_walk.specs.Forest.{Forest, nothing, item, lists, preorder, followed_by, filtered}
use Rattle.wax_walk.specs.Given.{Facts, Mark, Given}
use Rattle.wax_exclude.specs.inner.Stacks.{LeavesOutAll, PassesDown, AllPassDown}

module _ (cut : Given → Bool) where
  -- a walk without what is below these items
  abbrev left : Forest Given → Forest Given
  left f = filtered (λ x. x) cut f

  -- ---- rules that pass down

  all_unless : (rule : Facts → Mark) (b : Bool) (f : Forest Given) → LeavesOutAll rule f
      → LeavesOutAll rule (cond b nothing f)
  all_unless rule true f h = tt
  all_unless rule false f h = h

  all_left : (rule : Facts → Mark) (f : Forest Given) → LeavesOutAll rule f → LeavesOutAll rule (left f)
  all_left rule nothing h = tt
  all_left rule (lists path after) h = all_left rule after h
  all_left rule (item x below after) h =
      (h.0, all_unless rule (cut x) (left below) (all_left rule below h.1), all_left rule after h.2)

  passes_unless : (rule : Facts → Mark) (b : Bool) (f : Forest Given) → PassesDown rule f
      → PassesDown rule (cond b nothing f)
  passes_unless rule true f h = tt
  passes_unless rule false f h = h

  pub passes_left : (rule : Facts → Mark) (f : Forest Given) → PassesDown rule f → PassesDown rule (left f)
  passes_left rule nothing h = tt
  passes_left rule (lists path after) h = passes_left rule after h
  passes_left rule (item x below after) h = (
    λ e. all_unless rule (cut x) (left below) (all_left rule below (h.0 e)),
    passes_unless rule (cut x) (left below) (passes_left rule below h.1),
    passes_left rule after h.2,
  )

  pub all_pass_left : (rules : List (Facts → Mark)) (f : Forest Given) → AllPassDown rules f
      → AllPassDown rules (left f)
  all_pass_left [] f h = tt
  all_pass_left (rule ∷ rules) f h = (passes_left rule f h.0, all_pass_left rules f h.1)

  -- ---- what has a property

  module _ (p : Given → Bool) where
    -- below an item that is cut nothing has the property
    abbrev pub NoneCut : Forest Given → Type 0
    NoneCut nothing = ⊤
    NoneCut (item x below after) =
        (cut x ≡ true → filter p (preorder below) ≡ []) × NoneCut below × NoneCut after
    NoneCut (lists path after) = NoneCut after

    same_cut : (b : Bool) (below : Forest Given) → (b ≡ true → filter p (preorder below) ≡ [])
        → filter p (preorder (left below)) ≡ filter p (preorder below)
        → filter p (preorder (cond b nothing (left below))) ≡ filter p (preorder below)
    same_cut true below h e = sym (h refl)
    same_cut false below h e = e

    -- then all that has it is left, in order
    pub same_left : (f : Forest Given) → NoneCut f → filter p (preorder (left f)) ≡ filter p (preorder f)
    same_left nothing h = refl
    same_left (lists path after) h = same_left after h
    same_left (item x below after) h =
        let now = preorder (cond (cut x) nothing (left below)) in
        let rest = preorder (left after) in
        let same : filter p (now ++ rest) ≡ filter p (preorder below ++ preorder after) =
        filter-append p now rest
        ∙ ap (λ ys. ys ++ filter p rest) (same_cut (cut x) below h.0 (same_left below h.1))
        ∙ ap (λ ys. filter p (preorder below) ++ ys) (same_left after h.2)
        ∙ sym (filter-append p (preorder below) (preorder after)) in
        ap (λ ys. cond (p x) (x ∷ ys) ys) same

    none_followed : (f g : Forest Given) → NoneCut f → NoneCut g → NoneCut (followed_by f g)
    none_followed nothing g h k = k
    none_followed (item x below after) g h k = (h.0, h.1, none_followed after g h.2 k)
    none_followed (lists path after) g h k = none_followed after g h k

    pub none_unless : (b : Bool) (x : Given) (below after : Forest Given)
        → (cut x ≡ true → filter p (preorder below) ≡ []) → NoneCut below → NoneCut after
        → NoneCut (cond b (followed_by below after) (item x below after))
    none_unless true x below after e h k = none_followed below after h k
    none_unless false x below after e h k = (e, h, k)

    pub none_if : (b : Bool) (f : Forest Given) → NoneCut f → NoneCut (cond b f nothing)
    none_if true f h = h
    none_if false f h = tt

  -- ---- a filter after it

  filtered_cut : (change : Given → Given) (other : Given → Bool) (b c : Bool) (below both : Forest Given)
      → filtered change other below ≡ both
      → cond b nothing (filtered change other (cond c nothing below)) ≡ cond (b || c) nothing both
  filtered_cut change other true c below both e = refl
  filtered_cut change other false true below both e = refl
  filtered_cut change other false false below both e = e

  -- a filter over what is left cuts in both ways
  pub filtered_left : (change : Given → Given) (other : Given → Bool) (f : Forest Given)
      → filtered change other (left f) ≡ filtered change (λ x. other x || cut x) f
  filtered_left change other nothing = refl
  filtered_left change other (lists path after) = ap (lists path) (filtered_left change other after)
  filtered_left change other (item x below after) =
      let both : Given → Bool = λ y. other y || cut y in
      ap (λ v. item (change x) v (filtered change other (left after)))
      (filtered_cut change other (other x) (cut x) (left below) (filtered change both below)
      (filtered_left change other below))
      ∙ ap (λ v. item (change x) (cond (other x || cut x) nothing (filtered change both below)) v)
      (filtered_left change other after)
