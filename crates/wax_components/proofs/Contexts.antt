-- The profiles of a token in its contexts.
use Rattle.std.proofs.Common.{◌++◌, ◌+◌, ◌-◌, ◌<◌, ◌∙◌, ◌∷◌, ◌≡◌, ◌≤◌, Bool, List, Option, ℕ, [], ap, arith}
use Rattle.std.proofs.Common.{drop, drop-cons, false, get_or, length, refl, subst, suc, sym, true, zero}
use Rattle.wax_query.specs.Components.{slash, slashes}
use Rattle.wax_token.specs.{Syntax.Tree, Words.trees}
use Rattle.wax_components.specs.{declared.profile.Profile.Profile, declared.profiles.Profiles.Profiles}
use Rattle.wax_components.specs.inner.Profiles.{concatenated, empty_text, only, power_range, single, union}
use Rattle.wax_components.specs.inner.Saturation.{ProfilesOf, either_profile, in_context, profiles, saturated}
use Rattle.wax_components.specs.inner.Saturation.{saturated_beside, saturated_repeated}
use Rattle.wax_components.specs.inner.Shapes.{Shape, empty, ended, joined_shape, shape}
use Rattle.wax_components.specs.inner.TreeProfiles.{admits, admits_two, each_profile, less_two}
use Rattle.wax_components.specs.inner.TreeProfiles.{repeated_profile, some_profile, tree_profile, two_or_more}
use Rattle.wax_components.proofs.Saturation.{Close, concatenated_close, only_close, power_range_close}
use Rattle.wax_components.proofs.Saturation.{saturated_twice, union_close}
use Rattle.wax_components.proofs.Shapes.{shape_append, slashes_append}

pub at_profiles : (f : Bool → Bool → Profile) (b a : Bool) → in_context (profiles f) b a ≡ f b a
at_profiles f false false = refl
at_profiles f false true = refl
at_profiles f true false = refl
at_profiles f true true = refl

pub profiles_by : (f g : Bool → Bool → Profile) → ((b a : Bool) → Close (f b a) (g b a))
    → ProfilesOf (profiles f) g
profiles_by f g h b a = ap saturated (at_profiles f b a) ∙ h b a

pub either_of : (l r : Profiles) (f g : Bool → Bool → Profile) → ProfilesOf l f → ProfilesOf r g
    → ProfilesOf (profiles (either_profile l r)) (λ b a. union (f b a) (g b a))
either_of l r f g h k = profiles_by (either_profile l r) (λ b a. union (f b a) (g b a))
    (λ b a. union_close (in_context l b a) (in_context r b a) (f b a) (g b a) (h b a) (k b a))

pub beside_of : (l r : Profiles) (f g : Bool → Bool → Profile) → ProfilesOf l f → ProfilesOf r g
    → ProfilesOf (profiles (saturated_beside l r)) (λ b a. concatenated (f b true) (g true a))
beside_of l r f g h k = profiles_by (saturated_beside l r) (λ b a. concatenated (f b true) (g true a))
    (λ b a. saturated_twice (concatenated (in_context l b true) (in_context r true a)) ∙ concatenated_close
    (in_context l b true) (in_context r true a) (f b true) (g true a) (h b true) (k true a))

module _ (body : Profiles) (low : ℕ) (high : Option ℕ) where
  abbrev between : Profile
  between = saturated (power_range (low - 2) (less_two high) body.middle)

  abbrev many : Bool → Bool → Profile
  many b a = saturated
      (concatenated (in_context body b true) (saturated (concatenated between (in_context body true a))))

  many_close : (f : Bool → Bool → Profile) → ProfilesOf body f → (b a : Bool)
      → Close (many b a) (two_or_more (low - 2) (less_two high) f b a)
  many_close f h b a =
      saturated_twice
      (concatenated (in_context body b true) (saturated (concatenated between (in_context body true a))))
      ∙ concatenated_close (in_context body b true)
      (saturated (concatenated between (in_context body true a))) (f b true)
      (concatenated (power_range (low - 2) (less_two high) (f true true)) (f true a)) (h b true)
      (saturated_twice (concatenated between (in_context body true a))
      ∙ concatenated_close between (in_context body true a)
      (power_range (low - 2) (less_two high) (f true true)) (f true a)
      (saturated_twice (power_range (low - 2) (less_two high) body.middle)
      ∙ power_range_close (low - 2) (less_two high) body.middle (f true true) (h true true)) (h true a))

  pub repeated_of : (f : Bool → Bool → Profile) → ProfilesOf body f
      → ProfilesOf (profiles (saturated_repeated body low high)) (repeated_profile low high f)
  repeated_of f h = profiles_by (saturated_repeated body low high) (repeated_profile low high f) (λ b a.
      union_close (only (admits 0 low high) empty_text)
      (union (only (admits 1 low high) (in_context body b a)) (only (admits_two low high) (many b a)))
      (only (admits 0 low high) empty_text) (union (only (admits 1 low high) (f b a))
      (only (admits_two low high) (two_or_more (low - 2) (less_two high) f b a))) refl
      (union_close (only (admits 1 low high) (in_context body b a))
      (only (admits_two low high) (many b a)) (only (admits 1 low high) (f b a))
      (only (admits_two low high) (two_or_more (low - 2) (less_two high) f b a))
      (only_close (admits 1 low high) (in_context body b a) (f b a) (h b a))
      (only_close (admits_two low high) (many b a) (two_or_more (low - 2) (less_two high) f b a)
      (many_close f h b a))))

-- ---- texts
pub single_concatenated : (a b : Shape) (m n : ℕ)
    → concatenated (single a m) (single b n) ≡ single (joined_shape a b) (m + n)
single_concatenated empty empty m n = refl
single_concatenated empty (ended false false) m n = refl
single_concatenated empty (ended false true) m n = refl
single_concatenated empty (ended true false) m n = refl
single_concatenated empty (ended true true) m n = refl
single_concatenated (ended false false) empty m n = refl
single_concatenated (ended false false) (ended false false) m n = refl
single_concatenated (ended false false) (ended false true) m n = refl
single_concatenated (ended false false) (ended true false) m n = refl
single_concatenated (ended false false) (ended true true) m n = refl
single_concatenated (ended false true) empty m n = refl
single_concatenated (ended false true) (ended false false) m n = refl
single_concatenated (ended false true) (ended false true) m n = refl
single_concatenated (ended false true) (ended true false) m n = refl
single_concatenated (ended false true) (ended true true) m n = refl
single_concatenated (ended true false) empty m n = refl
single_concatenated (ended true false) (ended false false) m n = refl
single_concatenated (ended true false) (ended false true) m n = refl
single_concatenated (ended true false) (ended true false) m n = refl
single_concatenated (ended true false) (ended true true) m n = refl
single_concatenated (ended true true) empty m n = refl
single_concatenated (ended true true) (ended false false) m n = refl
single_concatenated (ended true true) (ended false true) m n = refl
single_concatenated (ended true true) (ended true false) m n = refl
single_concatenated (ended true true) (ended true true) m n = refl

pub text_step : (s : List ℕ) (c : ℕ) (r k : Profile) → saturated r ≡ saturated (single (shape s) (slashes s))
    → k ≡ single (shape (c ∷ [])) (slash c) →
    saturated (saturated (concatenated r k))
    ≡ saturated (single (shape (s ++ c ∷ [])) (slashes (s ++ c ∷ [])))
text_step s c r k e g =
    saturated_twice (concatenated r k) ∙ concatenated_close r k (single (shape s) (slashes s))
    (single (shape (c ∷ [])) (slash c)) e (ap saturated g)
    ∙ ap saturated (single_concatenated (shape s) (shape (c ∷ [])) (slashes s) (slash c))
    ∙ ap (λ z. saturated (single z (slashes s + slash c))) (sym (shape_append s (c ∷ [])))
    ∙ ap (λ z. saturated (single (shape (s ++ c ∷ [])) z)) (let f : slashes (s ++ c ∷ [])
    ≡ slashes s + slashes (c ∷ []) = slashes_append s (c ∷ []) in omega (arith, f))

-- ---- lists of tokens
module _ {A : Type 0} (ts : List (Tree A)) (i : ℕ) (t : Tree A) (within : i < length ts)
    (at : t ≡ get_or ts i t) where
  here : drop i ts ≡ t ∷ drop (suc i) ts
  here = drop-cons ts i t within ∙ ap (λ z. z ∷ drop (suc i) ts) (sym at)

  pub some_step : (l r : Profiles) → ProfilesOf l (tree_profile t)
      → ProfilesOf r (some_profile (trees (drop (suc i) ts)))
      → ProfilesOf (profiles (either_profile l r)) (some_profile (trees (drop i ts)))
  some_step l r h k = subst (λ z. ProfilesOf (profiles (either_profile l r)) (some_profile (trees z)))
      (sym here) (either_of l r (tree_profile t) (some_profile (trees (drop (suc i) ts))) h k)

  pub each_step : suc i < length ts → (l r : Profiles) → ProfilesOf l (tree_profile t)
      → ProfilesOf r (each_profile (trees (drop (suc i) ts))) →
      ProfilesOf (profiles (saturated_beside l r)) (each_profile (trees (drop i ts)))
  each_step lt l r h k =
      let u : Tree A = get_or ts (suc i) t in
      let e : drop (suc i) ts ≡ u ∷ drop (suc (suc i)) ts = drop-cons ts (suc i) t lt in
      let g : ProfilesOf r (each_profile (trees (u ∷ drop (suc (suc i)) ts))) =
      subst (λ z. ProfilesOf r (each_profile (trees z))) e k in
      subst (λ z. ProfilesOf (profiles (saturated_beside l r)) (each_profile (trees z)))
      (sym (here ∙ ap (λ z. t ∷ z) e))
      (beside_of l r (tree_profile t) (each_profile (trees (u ∷ drop (suc (suc i)) ts))) h g)

pub some_put : {A : Type 0} (ts : List (Tree A)) (index : ℕ) (t : Tree A) (l r new : Profiles) → 0 < index
    → index ≤ length ts → t ≡ get_or ts (index - 1) t →
    ProfilesOf l (tree_profile t) → ProfilesOf r (some_profile (trees (drop index ts)))
    → new ≡ profiles (either_profile l r) → ProfilesOf new (some_profile (trees (drop (index - 1) ts)))
some_put ts zero t l r new lt le at h k e = absurd (omega (arith, lt))
some_put ts (suc i) t l r new lt le at h k e =
    let p : suc i - 1 ≡ i = omega arith in
    let at : t ≡ get_or ts i t = rw p at at in
    subst (λ z. ProfilesOf new (some_profile (trees (drop z ts)))) (sym p) (subst (λ z. ProfilesOf z
    (some_profile (trees (drop i ts)))) (sym e) (some_step ts i t (omega (arith, le)) at l r h k))

pub each_put : {A : Type 0} (ts : List (Tree A)) (index : ℕ) (t : Tree A) (l r new : Profiles) → 0 < index
    → index < length ts → t ≡ get_or ts (index - 1) t →
    ProfilesOf l (tree_profile t) → ProfilesOf r (each_profile (trees (drop index ts)))
    → new ≡ profiles (saturated_beside l r) → ProfilesOf new (each_profile (trees (drop (index - 1) ts)))
each_put ts zero t l r new lt le at h k e = absurd (omega (arith, lt))
each_put ts (suc i) t l r new lt le at h k e =
    let p : suc i - 1 ≡ i = omega arith in
    let at : t ≡ get_or ts i t = rw p at at in
    subst (λ z. ProfilesOf new (each_profile (trees (drop z ts)))) (sym p) (subst (λ z. ProfilesOf z
    (each_profile (trees (drop i ts)))) (sym e) (each_step ts i t (omega (arith, le)) at le l r h k))

pub all_some : {A : Type 0} (ts : List (Tree A)) (index : ℕ) (r : Profiles) → index ≤ 0
    → ProfilesOf r (some_profile (trees (drop index ts))) → ProfilesOf r (some_profile (trees ts))
all_some ts zero r le h = h
all_some ts (suc i) r le h = absurd (omega (arith, le))

pub all_each : {A : Type 0} (ts : List (Tree A)) (index : ℕ) (r : Profiles) → index ≤ 0
    → ProfilesOf r (each_profile (trees (drop index ts))) → ProfilesOf r (each_profile (trees ts))
all_each ts zero r le h = h
all_each ts (suc i) r le h = absurd (omega (arith, le))
