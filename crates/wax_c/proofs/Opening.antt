-- A handle is opened, and put together again.
use Rattle.std.proofs.Common.{◌≡◌, List, [], ◌∷◌, ◌++◌, refl, subst, lit<, Option, Some, None, w32, ℤ}
use Rattle.std.proofs.{alloc.Calls.handle_tells, cell.Inside.Good, ResultValues.and_tt}
use Rattle.std.specs.contracts.impls.GlobalAllocator.TheImpl.{ghosts}
use Rattle.wax_c.proofs.{Exports.Z, Making.{handle_val, Within}, Values.al}
use Rattle.wax_c.specs.GlobOwned.{glob_at, maybe_glob_at, owned_glob_at}
use Rattle.wax_c.specs.contracts.handle.GlobHandle.{the_row as Handle}
use Rattle.wax.specs.GlobView.{GlobView}
use seplogic.Ra.Ura.{Ura}
use lib.Dec.{T}
use base.{Logic.{ent, id⊢}, Fml.{Fml, feq, fsep, ftrue}}
use mir.{Val.{Val, vstruct, of_list, has_ty, WT}, Syntax.ty_int}
use types.Logic.{Logic, sem}
use types.Kit.{Item, Goal, Seq, Step, step, ‵, ◌$◌, ◌∵◌, !, qed, done, move, drop, fsplit, fjoin, fpick}
use types.Kit.{fpack, feq_i, feq_l}
use denote.{RawPtr.{Ptr, block_ptr, null_ptr, ptr_val}, Struct.Tuple.Tuple, RattleType.Valss}
use denote.{Builtin.{RawPtr, i32}, Steps.nothing, Param.layout}
use mathlib.Core.Bool.{Bool, true, false, ◌&&◌}
use Rattle.std.proofs.alloc.Global.TheLaws as heap_laws

abbrev InPair : Handle.Denot → ℤ → Val → Valss (Handle ∷ i32 ∷ []) → Fml
InPair d r w vss =
    fsep (feq (List Val) (w ∷ []) (vstruct (of_list (vss.0 ++ (vss.1.0 ++ []))) ∷ []))
    (fsep (Handle.own_val d vss.0) (fsep (i32.own_val r vss.1.0) ftrue))

module _ {M : Type 1} {𝓤 : Ura M} {𝓛 : Logic 𝓤} {K : Type 0} {Γ : List (Item 𝓤)} {G : Goal 𝓤 𝓛.H} where
  pub handle_out : K → (d : Handle.Denot) (vs : List Val)
      → ((h : Val) → vs ≡ handle_val d.at h ∷ [] → Good (layout Z) h
      → Seq K 𝓛 (‵ (owned_glob_at d.alloc d.at d.held) ∷ ‵ (Z.own_val d.alloc (h ∷ [])) ∷ Γ) G)
      → Seq K 𝓛 (‵ (Handle.own_val d vs) ∷ Γ) G
  handle_out t d vs k =
      fsplit t $ fpick t (λ vss. fsplit t $ feq_l t (λ ev. fsplit t $ feq_l t (λ ep. fsplit t $
      handle_tells (al Handle Z heap_laws.the_row_laws ghosts) t d.alloc vss.1.0 (λ h ea fits.
      move t (1 ∷ []) $ drop t $ move t (1 ∷ []) $ k h
      (subst (λ (ws : List Val). vs ≡ vstruct (of_list (ptr_val d.at ∷ (ws ++ []))) ∷ []) ea
      (subst (λ (ps : List Val). vs ≡ vstruct (of_list (ps ++ (vss.1.0 ++ []))) ∷ []) ep ev)) fits))))

  pub handle_in : K → (d : Handle.Denot) (h : Val)
      → Step K 𝓛 (‵ (Handle.own_val d (handle_val d.at h ∷ [])) ∷ Γ) G
      (‵ (owned_glob_at d.alloc d.at d.held) ∷ ‵ (Z.own_val d.alloc (h ∷ [])) ∷ Γ) G
  handle_in t d h = step (λ s.
      nothing t $ move t (2 ∷ 0 ∷ []) $ fjoin t $
      feq_i t (List Val) (ptr_val d.at ∷ []) (ptr_val d.at ∷ []) refl $ fjoin t $
      feq_i t (List Val) (handle_val d.at h ∷ []) (handle_val d.at h ∷ []) refl $ fjoin t $
      fpack t (Valss (RawPtr ∷ Z ∷ [])) (Within d.at d.alloc h) (ptr_val d.at ∷ [], (h ∷ [], tt)) $
      fjoin t $ s)

  pub pair_in : K → (d : Handle.Denot) (h : Val) (r : ℤ) (v : Val)
      → let w = vstruct (of_list (handle_val d.at h ∷ v ∷ [])) in
      Step K 𝓛 (‵ ((Tuple (Handle ∷ i32 ∷ [])).own_val (d, r) (w ∷ [])) ∷ Γ) G
      (‵ (Handle.own_val d (handle_val d.at h ∷ [])) ∷ ‵ (i32.own_val r (v ∷ [])) ∷ Γ) G
  pair_in t d h r v = step (λ s.
      let w = vstruct (of_list (handle_val d.at h ∷ v ∷ [])) in
      nothing t $ move t (2 ∷ 0 ∷ []) $ fjoin t $ move t (1 ∷ 0 ∷ []) $ fjoin t $
      feq_i t (List Val) (w ∷ []) (w ∷ []) refl $ fjoin t $
      fpack t (Valss (Handle ∷ i32 ∷ [])) (InPair d r w) (handle_val d.at h ∷ [], (v ∷ [], tt)) $ s)

-- what a handle holds, or the default
abbrev pub or_held : GlobView → Option GlobView → GlobView
or_held d None = d
or_held d (Some g) = g

pub handle_good : (p : Ptr) (h : Val) → Good (layout Z) h → T (has_ty (layout Handle) (handle_val p h))
    × WT (handle_val p h)
handle_good (block_ptr b o) h fits = (and_tt (has_ty (layout Z) h) fits.0, (tt, (fits.1, tt)))
handle_good null_ptr h fits =
    (and_tt (has_ty (layout Z) h) fits.0, (record { fits = lit< tt }, (fits.1, tt)))

and : (a b : Bool) → T a → T b → T (a && b)
and true b left right = right
and false b left right = absurd left

-- a handle with a number
pub pair_good : (p : Ptr) (h v : Val) → Good (layout Z) h → T (has_ty (ty_int w32) v) × WT v
    → let both = vstruct (of_list (handle_val p h ∷ v ∷ [])) in
    T (has_ty (layout (Tuple (Handle ∷ i32 ∷ []))) both) × WT both
pair_good p h v fits typed =
    let handle = handle_good p h fits in
    (and _ _ handle.0 (and_tt _ typed.0), (handle.1, (typed.1, tt)))

module _ {M : Type 1} {𝓤 : Ura M} (𝓛 : Logic 𝓤) where
  -- what a handle owns may be freed
  pub may_free : (a : Z.Denot) (p : Ptr) (held : Option GlobView) → (held ≡ None → p ≡ null_ptr)
      → ent 𝓤 (sem 𝓛 (owned_glob_at a p held)) (sem 𝓛 (maybe_glob_at a p held))
  may_free a p None empty =
      qed 𝓛 (‵ (owned_glob_at a p None) ∷ []) ∵ feq_i ! Ptr p null_ptr (empty refl) $ move ! (1 ∷ 0 ∷ []) $
      drop ! $ done !
  may_free a p (Some g) empty = id⊢ 𝓤 (sem 𝓛 (glob_at a p g))
