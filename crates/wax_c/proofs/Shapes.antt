-- Code that follows a handle and passes all that it got on to another function does what that function does.
use Rattle.std.proofs.Common.{List, [], ◌∷◌, ◌++◌, ◌+◌, ◌≡◌, zero, refl, sym, subst, ℕ, ℤ, w32, w64}
use Rattle.wax_c.proofs.Arguments.{Argument, text, list_out, out, type_of, Rows, count, values}
use Rattle.wax_c.proofs.Exports.{Gives, Returned, Z, function}
use base.{Logic.{SProp, ex}, Fml.{Share, fat, froom}, Fraction.full_share}
use contract.Lifetimes.{Lfts}
use lib.Dec.{T}
use mir.Syntax.{Fn, Callee, Lifetime, Mutability, Ty, ty_int, ty_ptr, ty_ref, place, copy, assign, rv_opd}
use mir.Syntax.{addr_of, aggregate, deref, field, seq, call, return, erased, mut, Body, Opd}
use mir.Val.{Val, vcons, vint, vnil, vptr, vstruct, has_ty, WT}
use prog.Wp.{Calls, Env, Loops, Spot, WpFn, spot_of}
use seplogic.Ra.Ura.{Ura}
use sound.WpLaws.{FmC}
use types.ByLocal.{at, cell, set, alloc_all, pass_all, free_all, look_at, look_in_at, get, get_in, through}
use types.ByLocal.{sets, lands_as}
use types.Kit.{Sq, Item, Post, Step, step, runs, lands, prop, raw, ‵, ◌⊛◌, some, later, ◌$◌, !, move, join}
use types.Kit.{split, pick, suffices, await, show, done}
use types.Run.{Opds, Walks, assigns, init, and_then, no_more, addr, stop, fld, hop, from, of_opd, returns}
use types.{Run.{enter, calls}, Logic.Logic, Part.{Part, sub, whole, agg}}
use denote.{RattleType.{RattleType, Denots, mirs}, Builtin.{i32, u8, usize}, Laws.{Is, Typed, shows}}
use denote.{Memory.pointee, Param.layout, Signed.sint_Lawful, Slice.{slice_ty, slice_val}, Steps.peeks}

-- ---- the code
abbrev pub on : ℕ → Opd
on i = copy (place i [])

-- a reference is lent again
abbrev pub again : ℕ → ℕ → Ty → Body → Body
again i t τ rest = seq (assign (place t []) (addr_of (place i (deref τ ∷ [])))) rest

-- a slice is, as its pointer and its length
abbrev pub again_slice : ℕ → ℕ → Ty → Body → Body
again_slice i t τ rest =
    seq (assign (place t []) (addr_of (place i (field 0 ∷ deref τ ∷ []))))
    (seq (assign (place (t + 1) []) (aggregate (on t ∷ copy (place i (field 1 ∷ [])) ∷ []))) rest)

-- the parameters' types, of which the first has the j-th lifetime, and then these
abbrev pub params : ℕ → List Argument → List Ty → List Ty
params j [] τs = τs
params j (x ∷ xs) τs = layout (type_of j [] x) ∷ params (j + 1) xs τs

-- the types of what is lent again
abbrev pub again_types : List Argument → List Ty
again_types [] = []
again_types (text ∷ xs) = again_types xs
again_types (list_out R ∷ xs) =
    ty_ref erased mut (pointee R.written) ∷ slice_ty (ty_ref erased mut (pointee R.written)) ∷ again_types xs
again_types (out R ∷ xs) = ty_ref erased mut (pointee R.written) ∷ again_types xs

-- the arguments from the local i on are passed on; t: the next local for what is lent again
abbrev pub passing : Callee → List Argument → ℕ → ℕ → List Opd → Body
passing f [] i t os = seq (call f os (place 0 [])) return
passing f (text ∷ xs) i t os = passing f xs (i + 1) t (os ++ on i ∷ [])
passing f (list_out R ∷ xs) i t os =
    again_slice i t (layout R) (passing f xs (i + 1) (t + 2) (os ++ on (t + 1) ∷ []))
passing f (out R ∷ xs) i t os = again i t (layout R) (passing f xs (i + 1) (t + 1) (os ++ on t ∷ []))

-- f: the function that is called.  R: the type of what lies at the handle.  μ: how it is lent
module _ (f : Callee) (R : RattleType) (μ : Mutability) (xs : List Argument) where
  abbrev pub code : Fn
  code = let h = count xs + 3 in
      function (count xs) (count xs + 2) (ty_int w32 ∷ layout Z ∷ ty_ptr
      ∷ params 0 xs (ty_ptr ∷ ty_ref erased μ (pointee R.written) ∷ again_types xs))
      (seq (assign (place h []) (rv_opd (on 2)))
      (again h (h + 1) (layout R) (passing f xs 3 (h + 2) (on 1 ∷ on (h + 1) ∷ []))))

-- the code does what f does at the same values
abbrev pub Forwards : List Argument → Type 2
Forwards xs = (M : Type 1) (𝓤 : Ura M) (𝓛 : Logic 𝓤) (C : Calls 𝓤 𝓛.H) (Λ : Loops 𝓤 𝓛.H) → FmC 𝓤 𝓛.H 𝓛.laws C
    → (f : Callee) (R : RattleType) (μ : Mutability) (P : SProp 𝓤) (Y : ℤ → SProp 𝓤)
    (κs : Lfts (count xs)) (t : Denots (Rows xs κs)) → Typed (mirs (Rows xs κs)) (values xs κs t)
    → (z : Val) (b o : ℕ) → T (has_ty (layout Z) z) × WT z → let vs = z ∷ vptr b o ∷ values xs κs t in
    Sq 𝓛 (later (raw (C f vs (Gives 𝓛 i32 P Y))) ∷ [])
    (prop (WpFn 𝓤 𝓛.H C Λ (code f R μ xs) vs (Gives 𝓛 i32 P Y)))

-- What calls take, and that the code of such a call does what the other function does.
pub record Shape : Type 2 where
  pub args : List Argument
  pub forwards : Forwards args

-- ---- steps of the walks, where E has the locals and Γ what is in them
module _ {M : Type 1} {𝓤 : Ura M} (𝓛 : Logic 𝓤) (P : SProp 𝓤) (Y : ℤ → SProp 𝓤) where
  abbrev pub answer : Val → Item 𝓤
  answer v = later (some (λ (r : ℤ). (raw P ⊛ ‵ (i32.own_val r (v ∷ []))) ⊛ raw (Y r)))

  abbrev pub answer_open : Val → ℤ → List (Item 𝓤) → List (Item 𝓤)
  answer_open v r Γ = ‵ (i32.own_val r (v ∷ [])) ∷ raw P ∷ raw (Y r) ∷ Γ

  -- f has returned v, which is returned
  pub answered : {Γ : List (Item 𝓤)} {E : Env 𝓤 𝓛.H} {q : Post 𝓤 𝓛.H} {C : Calls 𝓤 𝓛.H} {Λ : Loops 𝓤 𝓛.H}
      (v : Val)
      → ((r : ℤ) → T (has_ty (ty_int w32) v) × WT v → Sq 𝓛 (answer_open v r []) (prop (Gives 𝓛 i32 P Y v))
      → Sq 𝓛 (answer_open v r Γ) (lands C Λ E (place 0 []) v return q))
      → Sq 𝓛 (answer v ∷ Γ) (lands C Λ E (place 0 []) v return q)
  answered v k = await ! tt $ pick ! (λ r. split ! $ split ! $ move ! (1 ∷ []) $
      peeks ! i32 (Is i32) (shows 𝓛 i32) r (v ∷ []) (λ is. k r ((sint_Lawful 𝓛 w32).typed r _ is).0
      (suffices ! (ex 𝓤 (Returned 𝓛 i32 P Y v)) (𝓛.laws.⇛_intro _) $ show ! (Returned 𝓛 i32 P Y v) r $
      move ! (1 ∷ 0 ∷ []) $ join ! $ done !)))

module _ {M : Type 1} {𝓤 : Ura M} (𝓛 : Logic 𝓤) (E : Env 𝓤 𝓛.H) where
  abbrev pub holds : Share → ℕ → Val → Item 𝓤
  holds q i v = ‵ (fat q (spot_of 𝓤 𝓛.H E i).0 (spot_of 𝓤 𝓛.H E i).1 zero v)

  abbrev pub empty : ℕ → Item 𝓤
  empty i = ‵ (froom (spot_of 𝓤 𝓛.H E i).0 (spot_of 𝓤 𝓛.H E i).1 zero)

  abbrev pub fits_in : ℕ → Val → Type 0
  fits_in i v = T (has_ty (spot_of 𝓤 𝓛.H E i).0 v) × WT v

module _ {M : Type 1} {𝓤 : Ura M} {𝓛 : Logic 𝓤} {K : Type 0} {Γ : List (Item 𝓤)} {E : Env 𝓤 𝓛.H} where
  -- the local i is passed on
  pub more : K → {i : ℕ} {q : Share} {v : Val} {os : List Opd} {vs : List Val} → at 𝓛 i Γ ≡ holds 𝓛 E q i v
      → Opds K 𝓛 Γ E os vs → Opds K 𝓛 Γ E (on i ∷ os) (v ∷ vs)
  more t p os = and_then t (get t p) os

  module _ {C : Calls 𝓤 𝓛.H} {Λ : Loops 𝓤 𝓛.H} {p : Post 𝓤 𝓛.H} {rest : Body} {i l : ℕ} {q : Share}
      {τ : Ty} where
    -- the reference in it is lent again, to the local l
    pub lent : K → {b o : ℕ} → let v = vptr b o in at 𝓛 i Γ ≡ holds 𝓛 E q i v → at 𝓛 l Γ ≡ empty 𝓛 E l
        → fits_in 𝓛 E l v
        → Step K 𝓛 (set 𝓛 l (holds 𝓛 E full_share l v) Γ) (runs C Λ E rest p)
        Γ (runs C Λ E (again i l τ rest) p)
    lent t p free fit =
        assigns t (addr t (through t p (stop t))) (from t (stop t)) (init t (cell l Γ) free fit)

    -- the slice in it is, to the locals l and l + 1
    pub lent_slice : K → {b o n c : ℕ} {ℓ : Lifetime} {σ : Ty}
        → let v = slice_val (b, o) n in let u = vptr b o in
        let Γ₁ = set 𝓛 l (holds 𝓛 E full_share l u) Γ in let k = l + 1 in let ρ = ty_ref ℓ mut σ in
        spot_of 𝓤 𝓛.H E i ≡ (slice_ty ρ, c, zero)
        → at 𝓛 i Γ ≡ ‵ (fat q (slice_ty ρ) c zero v) → at 𝓛 l Γ ≡ empty 𝓛 E l → fits_in 𝓛 E l u
        → at 𝓛 i Γ₁ ≡ ‵ (fat q (slice_ty ρ) c zero v) → at 𝓛 l Γ₁ ≡ holds 𝓛 E full_share l u
        → at 𝓛 k Γ₁ ≡ empty 𝓛 E k → fits_in 𝓛 E k v
        → Step K 𝓛 (set 𝓛 k (holds 𝓛 E full_share k v) Γ₁) (runs C Λ E rest p)
        Γ (runs C Λ E (again_slice i l τ rest) p)
    lent_slice t {b} {o} {n} {c} {ℓ} {σ} is p free fit p₁ p' free' fit' = step (λ s. let ρ = ty_ref ℓ mut σ in
        let Γ₁ = set 𝓛 l (holds 𝓛 E full_share l (vptr b o)) Γ in
        let whole_at : Val → Val → Item 𝓤 = λ v w.
        ‵ (fat q (slice_ty ρ) c zero (vstruct (vcons v (vcons w vnil)))) in
        let pointer = subst (λ (x : Item 𝓤). Part K 𝓛 x q ρ c 0 (vptr b o) (λ u. whole_at u (vint w64 n)))
        (sym p) (sub t 0 refl (whole t)) in
        let size = subst (λ (x : Item 𝓤). Part K 𝓛 x q (ty_int w64) c 8 (vint w64 n) (whole_at (vptr b o)))
        (sym p₁) (sub t 1 refl (whole t)) in
        assigns t
        (addr t (from t (subst (λ (sp : Spot 𝓤 𝓛.H). Walks K 𝓛 Γ E sp (field 0 ∷ deref τ ∷ []) (τ, b, o))
        (sym is) (fld t refl (hop t (look_in_at t i pointer) (stop t)))))) (from t (stop t))
        (init t (cell l Γ) free fit) $
        assigns t (agg t (and_then t (get t p') (and_then t (get_in t (subst (λ (sp : Spot 𝓤 𝓛.H).
        Walks K 𝓛 Γ₁ E sp (field 1 ∷ []) (ty_int w64, c, 8)) (sym is) (fld t refl (stop t))) size)
        (no_more t)))) (from t (stop t)) (init t (cell (l + 1) Γ₁) free' fit') $ s)

pub on_alone : Forwards []
on_alone M 𝓤 𝓛 C Λ fm f R μ P Y κs t fits z b o tz =
    enter ! C Λ _ _ _ $ alloc_all ! (λ l. pass_all ! refl (tz, ((tt, tt), fits)) $ await ! tt $
    sets ! (of_opd ! (get ! refl)) refl (tt, tt) $ lent ! refl refl (tt, tt) $ calls ! fm (answer 𝓛 P Y)
    (more ! refl (more ! refl (no_more !))) (λ v.
    answered 𝓛 P Y v (λ r n s. lands_as ! refl refl n $ returns ! (look_at ! 0 refl) $ free_all ! refl $ s)))

-- nothing
abbrev pub alone : Shape
alone = record { args = []; forwards = on_alone }

pub on_path : Forwards (text ∷ [])
on_path M 𝓤 𝓛 C Λ fm f R μ P Y κs t fits z b o tz =
    enter ! C Λ _ _ _ $ alloc_all ! (λ l. pass_all ! refl (tz, ((tt, tt), fits)) $ await ! tt $
    sets ! (of_opd ! (get ! refl)) refl (tt, tt) $ lent ! refl refl (tt, tt) $ calls ! fm (answer 𝓛 P Y)
    (more ! refl (more ! refl (more ! refl (no_more !)))) (λ v.
    answered 𝓛 P Y v (λ r n s. lands_as ! refl refl n $ returns ! (look_at ! 0 refl) $ free_all ! refl $ s)))

-- a path
abbrev pub path : Shape
path = record { args = text ∷ []; forwards = on_path }

pub on_facts : (S : RattleType) → Forwards (out S ∷ [])
on_facts S M 𝓤 𝓛 C Λ fm f R μ P Y κs t fits z b o tz =
    enter ! C Λ _ _ _ $ alloc_all ! (λ l. pass_all ! refl (tz, ((tt, tt), fits)) $ await ! tt $
    sets ! (of_opd ! (get ! refl)) refl (tt, tt) $ lent ! refl refl (tt, tt) $ lent ! refl refl (tt, tt) $
    calls ! fm (answer 𝓛 P Y) (more ! refl (more ! refl (more ! refl (no_more !)))) (λ v.
    answered 𝓛 P Y v (λ r n s. lands_as ! refl refl n $ returns ! (look_at ! 0 refl) $ free_all ! refl $ s)))

-- a record that is written
abbrev pub facts : RattleType → Shape
facts S = record { args = out S ∷ []; forwards = on_facts S }

pub on_placing : (S : RattleType) → Forwards (text ∷ out S ∷ [])
on_placing S M 𝓤 𝓛 C Λ fm f R μ P Y κs t fits z b o tz =
    enter ! C Λ _ _ _ $ alloc_all ! (λ l. pass_all ! refl (tz, ((tt, tt), fits)) $ await ! tt $
    sets ! (of_opd ! (get ! refl)) refl (tt, tt) $ lent ! refl refl (tt, tt) $ lent ! refl refl (tt, tt) $
    calls ! fm (answer 𝓛 P Y) (more ! refl (more ! refl (more ! refl (more ! refl (no_more !))))) (λ v.
    answered 𝓛 P Y v (λ r n s. lands_as ! refl refl n $ returns ! (look_at ! 0 refl) $ free_all ! refl $ s)))

-- a text, and a value that is written
abbrev pub placing : RattleType → Shape
placing S = record { args = text ∷ out S ∷ []; forwards = on_placing S }

pub on_items : (S : RattleType) → Forwards (list_out S ∷ out usize ∷ [])
on_items S M 𝓤 𝓛 C Λ fm f R μ P Y κs t fits z b o tz =
    enter ! C Λ _ _ _ $ alloc_all ! (λ l. pass_all ! refl (tz, ((tt, tt), fits)) $ await ! tt $
    sets ! (of_opd ! (get ! refl)) refl (tt, tt) $ lent ! refl refl (tt, tt) $
    lent_slice ! refl refl refl (tt, tt) refl refl refl fits.0 $ lent ! refl refl (tt, tt) $
    calls ! fm (answer 𝓛 P Y) (more ! refl (more ! refl (more ! refl (more ! refl (no_more !))))) (λ v.
    answered 𝓛 P Y v (λ r n s. lands_as ! refl refl n $ returns ! (look_at ! 0 refl) $ free_all ! refl $ s)))

-- what is found, and the number of these
abbrev pub items : RattleType → Shape
items S = record { args = list_out S ∷ out usize ∷ []; forwards = on_items S }

-- a text that is written, and the number of its bytes
abbrev pub writing : Shape
writing = items u8

pub on_listing : (S : RattleType) → Forwards (text ∷ list_out S ∷ out usize ∷ [])
on_listing S M 𝓤 𝓛 C Λ fm f R μ P Y κs t fits z b o tz =
    enter ! C Λ _ _ _ $ alloc_all ! (λ l. pass_all ! refl (tz, ((tt, tt), fits)) $ await ! tt $
    sets ! (of_opd ! (get ! refl)) refl (tt, tt) $ lent ! refl refl (tt, tt) $
    lent_slice ! refl refl refl (tt, tt) refl refl refl fits.1.0 $ lent ! refl refl (tt, tt) $
    calls ! fm (answer 𝓛 P Y)
    (more ! refl (more ! refl (more ! refl (more ! refl (more ! refl (no_more !)))))) (λ v.
    answered 𝓛 P Y v (λ r n s. lands_as ! refl refl n $ returns ! (look_at ! 0 refl) $ free_all ! refl $ s)))

-- a text, what is found of it, and the number of these
abbrev pub listing : RattleType → Shape
listing S = record { args = text ∷ list_out S ∷ out usize ∷ []; forwards = on_listing S }

pub on_captures : Forwards (text ∷ list_out u8 ∷ list_out usize ∷ out usize ∷ [])
on_captures M 𝓤 𝓛 C Λ fm f R μ P Y κs t fits z b o tz =
    enter ! C Λ _ _ _ $ alloc_all ! (λ l. pass_all ! refl (tz, ((tt, tt), fits)) $ await ! tt $
    sets ! (of_opd ! (get ! refl)) refl (tt, tt) $ lent ! refl refl (tt, tt) $
    lent_slice ! refl refl refl (tt, tt) refl refl refl fits.1.0 $
    lent_slice ! refl refl refl (tt, tt) refl refl refl fits.1.1.0 $ lent ! refl refl (tt, tt) $
    calls ! fm (answer 𝓛 P Y)
    (more ! refl (more ! refl (more ! refl (more ! refl (more ! refl (more ! refl (no_more !))))))) (λ v.
    answered 𝓛 P Y v (λ r n s. lands_as ! refl refl n $ returns ! (look_at ! 0 refl) $ free_all ! refl $ s)))

-- a path, texts that are written, their lengths, and the number of these
abbrev pub captures : Shape
captures = record { args = text ∷ list_out u8 ∷ list_out usize ∷ out usize ∷ []; forwards = on_captures }

pub on_parts : (S : RattleType) → Forwards (list_out u8 ∷ out usize ∷ out S ∷ [])
on_parts S M 𝓤 𝓛 C Λ fm f R μ P Y κs t fits z b o tz =
    enter ! C Λ _ _ _ $ alloc_all ! (λ l. pass_all ! refl (tz, ((tt, tt), fits)) $ await ! tt $
    sets ! (of_opd ! (get ! refl)) refl (tt, tt) $ lent ! refl refl (tt, tt) $
    lent_slice ! refl refl refl (tt, tt) refl refl refl fits.0 $ lent ! refl refl (tt, tt) $
    lent ! refl refl (tt, tt) $ calls ! fm (answer 𝓛 P Y)
    (more ! refl (more ! refl (more ! refl (more ! refl (more ! refl (no_more !)))))) (λ v.
    answered 𝓛 P Y v (λ r n s. lands_as ! refl refl n $ returns ! (look_at ! 0 refl) $ free_all ! refl $ s)))

-- a text that is written, the number of its bytes, and a record that is written
abbrev pub parts : RattleType → Shape
parts S = record { args = list_out u8 ∷ out usize ∷ out S ∷ []; forwards = on_parts S }
