-- Calls that make a handle: a null one, and one of a box that was taken apart.
use Rattle.std.proofs.Common.{◌≡◌, List, [], ◌∷◌, ◌++◌, refl, sym, subst, lit<, ℕ, w64}
use Rattle.std.specs.{Box.Ownership.box_owns, contracts.impls.GlobalAllocator.TheImpl.ghosts}
use Rattle.wax_c.proofs.Exports.{Gives, Returned, Z, ended, function, spelled, told}
use Rattle.wax_c.proofs.Values.{both, Loose, loose_good, loose_out}
use base.{Fml.{Fml, ftrue, fsep, fex, feq}, Logic.{SProp, ent, sep, ex, emp, id⊢}}
use contract.{Monad.fact, Running.{Running, tables}}
use mir.Syntax.{Callee, Fn, Sym, Ty, ty_ptr, ty_struct, tcons, tnil, place, copy, int, assign, rv_opd}
use mir.{Syntax.{aggregate, field, seq, return}, Val.{Val, vptr, vstruct, of_list}}
use prog.{Model.Model, Wp.{Closed, WpFn}}
use seplogic.Ra.Ura.{Ura}
use types.ByLocal.{alloc_all, pass_all, free_all, look_at, get, get_in, sets}
use types.Kit.{Sq, prop, ‵, ◌⊛◌, ◌$◌, ◌∵◌, !, qed, move, keep, drop, split, join, fsplit, fjoin, fpack, feq_i}
use types.Kit.{rewrite, suffices, frame, show, done}
use types.{Run.{stop, fld, of_opd, and_then, no_more, lit, returns, enter}, Logic.{Logic, sem}}
use types.Part.{agg, sub, whole}
use denote.{Builtin.RawPtr, Exit.{yes, no}, Param.layout, RattleType.{RattleType, Valss, owns}}
use denote.{RawPtr.{Ptr, block_ptr, null_ptr, ptr_val}, Signature.plain, Steps.nothing}
use denote.{Triple.Clauses.{Clauses, Ended, closing}, Triple.Spec.triple_of, Triple.Statement.Triple}
use denote.{Triple.Table.entered, Triple.Walked.says}
use Rattle.std.proofs.alloc.Global.TheLaws as heap_laws

abbrev handle_ty : Sym → Ty
handle_ty ν = ty_struct ν (tcons ty_ptr (tcons (layout Z) tnil))

abbrev pub handle_val : Ptr → Val → Val
handle_val p z = vstruct (of_list (ptr_val p ∷ z ∷ []))

-- what a handle's fields own: the pointer p, and the allocator x, whose machine value is z
abbrev pub Within : Ptr → Z.Denot → Val → Valss (RawPtr ∷ Z ∷ []) → Fml
Within p x z vss =
    fsep (feq (List Val) (handle_val p z ∷ []) (vstruct (of_list (vss.0 ++ (vss.1.0 ++ []))) ∷ []))
    (fsep (RawPtr.own_val p vss.0) (fsep (Z.own_val x vss.1.0) ftrue))

abbrev pub Fields : Ptr → Z.Denot → Val → Fml
Fields p x z = fex (Valss (RawPtr ∷ Z ∷ [])) (Within p x z)

abbrev pub null_code : Sym → Fn
null_code ν = function 0 1 (handle_ty ν ∷ layout Z ∷ [])
    (seq (assign (place 0 []) (aggregate (int w64 0 ∷ copy (place 1 []) ∷ []))) return)

abbrev pub of_code : Sym → Sym → Fn
of_code ν μ = function 0 1 (handle_ty ν ∷ handle_ty μ ∷ ty_ptr ∷ layout Z ∷ ty_ptr ∷ [])
    (seq (assign (place 2 []) (rv_opd (copy (place 1 (field 0 ∷ [])))))
    (seq (assign (place 3 []) (rv_opd (copy (place 1 (field 1 ∷ [])))))
    (seq (assign (place 4 []) (rv_opd (copy (place 2 []))))
    (seq (assign (place 0 []) (aggregate (copy (place 4 []) ∷ copy (place 3 []) ∷ []))) return))))

-- H: the type of the handle.  Says: the clause
module _ (H : RattleType) (Says : H.Denot → Type 0) {M : Type 1} (𝓤 : Ura M) (𝓛 : Logic 𝓤) where
  abbrev Out : H.Denot → Unit {0} × Unit {0} → SProp 𝓤
  Out r ws = sep 𝓤 (sem 𝓛 (fsep ftrue ftrue)) (fact 𝓤 (Says r))

  -- owned: what the handle owns beside its fields
  hands_out : (p : Ptr) (x : Z.Denot) (z : Val) (owned : Fml) (r : H.Denot)
      → H.own_val r (handle_val p z ∷ []) ≡ fsep (Fields p x z) owned → Says r
      → Sq 𝓛 (‵ (Z.own_val x (z ∷ [])) ∷ ‵ owned ∷ []) (prop (Gives 𝓛 H (emp 𝓤) (λ r.
      ex 𝓤 (Out r)) (handle_val p z)))
  hands_out p x z owned r own so =
      let v = handle_val p z in let Back = Returned 𝓛 H (emp 𝓤) (λ r. ex 𝓤 (Out r)) v in
      nothing ! $ move ! (1 ∷ 0 ∷ []) $ fjoin ! $ feq_i ! (List Val) (ptr_val p ∷ []) (ptr_val p ∷ []) refl $
      fjoin ! $ feq_i ! (List Val) (v ∷ []) (v ∷ []) refl $ fjoin ! $
      fpack ! (Valss (RawPtr ∷ Z ∷ [])) (Within p x z) (ptr_val p ∷ [], (z ∷ [], tt)) $ fjoin ! $
      rewrite ! 0 (λ (F : Fml). ‵ F) (sym own) refl $ suffices ! (ex 𝓤 Back) (𝓛.laws.⇛_intro _) $
      show ! Back r $ nothing ! $ join ! $ frame ! $ show ! (Out r) (tt, tt) $ says ! so $
      nothing ! $ nothing ! $ fjoin ! $ done !

-- null, for each allocator
module _ (H : RattleType) (d : Z.Denot → H.Denot) (Says : H.Denot → Type 0) (so : (x : Z.Denot) → Says (d x))
    (own : (x : Z.Denot) → let z = heap_laws.the_told.val x in
    H.own_val (d x) (handle_val null_ptr z ∷ []) ≡ fsep (Fields null_ptr x z) ftrue) where
  abbrev nulled : Ended
  nulled = ended 0 (plain (λ _. Z) ∷ []) (yes, tt) H

  abbrev promised : {M : Type 1} {𝓤 : Ura M} → Clauses 𝓤 nulled
  promised {𝓤 = 𝓤} κs a =
      record { ghost = Unit {0}; requires = λ _. emp 𝓤; ensures = λ _ r e. fact 𝓤 (Says r) }

  pub nulls : {M : Type 1} (𝓤 : Ura M) (𝓛 : Logic 𝓤) (𝓜 : Model 𝓤 𝓛.H) (𝓡 : Running 𝓤 𝓛.H 𝓜) {k : Callee}
      (ν : Sym)
      → let 𝓣 = tables 𝓤 𝓛.H 𝓜 𝓡 𝓡.env in Closed 𝓤 𝓛.H 𝓣.C 𝓣.Λ k (null_code ν)
      → Triple 𝓤 (𝓣.C k) (triple_of 𝓛 nulled.signature (closing 𝓛 nulled promised))
  nulls 𝓤 𝓛 𝓜 𝓡 {k} ν closed =
      let 𝓣 = tables 𝓤 𝓛.H 𝓜 𝓡 𝓡.env in
      let C = triple_of 𝓛 nulled.signature (closing 𝓛 nulled promised) in
      entered 𝓤 𝓛.H C 𝓣.C 𝓣.Λ k (null_code ν) closed (λ y.
      let x = y.0.3.0 in let z = heap_laws.the_told.val x in
      spelled 𝓛 nulled.signature tt tt (told, tt) (heap_laws.the_told.tells, tt) y.0.3 (emp 𝓤)
      (λ us. WpFn 𝓤 𝓛.H 𝓣.C 𝓣.Λ (null_code ν) (us.0 ++ []) (C.post y)) y.0.4 (λ are.
      let fits = ((heap_laws.the_row_laws.lawful 𝓛).typed x _ are.0).0 in
      qed 𝓛 ((‵ ftrue ⊛ ‵ (owns (Z ∷ []) (x, tt) (told x, tt))) ∷ ‵ ftrue ∷ []) ∵ split ! $ drop ! $
      fsplit ! $ enter ! _ _ _ _ _ $ alloc_all ! (λ l. pass_all ! refl (fits, tt) $
      sets ! (agg ! (and_then ! (lit ! tt) (and_then ! (get ! refl) (no_more !)))) refl
      (tt, (record { fits = lit< tt }, (fits.1, tt))) $ returns ! (look_at ! 0 refl) $ free_all ! refl $
      keep ! (0 ∷ 1 ∷ []) $ hands_out H Says 𝓤 𝓛 null_ptr x z ftrue (d x) (own x) (so x))))

-- R: the type of what lies at the handle.  d: the handle of each box that was taken apart, by its place
module _ (H R : RattleType) (d : (Loose R Z heap_laws.the_row_laws ghosts).Denot → ℕ → ℕ → H.Denot) where
  abbrev L : RattleType
  L = Loose R Z heap_laws.the_row_laws ghosts

  module _ (Says : L.Denot → H.Denot → Type 0) (so : (x : L.Denot) (b o : ℕ) → Says x (d x b o))
      (own : (x : L.Denot) (b o : ℕ) (z : Val) → let p = block_ptr b o in
      H.own_val (d x b o) (handle_val p z ∷ []) ≡ fsep (Fields p x.alloc z)
      (box_owns (ghosts.dealloc_token x.alloc) R p x.value)) where
    abbrev held : Ended
    held = ended 0 (plain (λ _. L) ∷ []) (no, tt) H

    abbrev told_of : {M : Type 1} {𝓤 : Ura M} → Clauses 𝓤 held
    told_of {𝓤 = 𝓤} κs a =
        record { ghost = Unit {0}; requires = λ _. emp 𝓤; ensures = λ _ r e. fact 𝓤 (Says a.0 r) }

    pub holds : {M : Type 1} (𝓤 : Ura M) (𝓛 : Logic 𝓤) (𝓜 : Model 𝓤 𝓛.H) (𝓡 : Running 𝓤 𝓛.H 𝓜) {k : Callee}
        (ν μ : Sym)
        → let 𝓣 = tables 𝓤 𝓛.H 𝓜 𝓡 𝓡.env in Closed 𝓤 𝓛.H 𝓣.C 𝓣.Λ k (of_code ν μ)
        → Triple 𝓤 (𝓣.C k) (triple_of 𝓛 held.signature (closing 𝓛 held told_of))
    holds 𝓤 𝓛 𝓜 𝓡 {k} ν μ closed =
        let 𝓣 = tables 𝓤 𝓛.H 𝓜 𝓡 𝓡.env in let C = triple_of 𝓛 held.signature (closing 𝓛 held told_of) in
        entered 𝓤 𝓛.H C 𝓣.C 𝓣.Λ k (of_code ν μ) closed (λ y. let x = y.0.3.0 in
        let Run : List Val → SProp 𝓤 = λ ws. WpFn 𝓤 𝓛.H 𝓣.C 𝓣.Λ (of_code ν μ) ws (C.post y) in
        qed 𝓛 ((‵ ftrue ⊛ ‵ (owns (L ∷ []) (x, tt) y.0.4)) ∷ ‵ ftrue ∷ []) ∵ split ! $ drop ! $ fsplit ! $
        loose_out R Z heap_laws.the_row_laws ghosts ! x y.0.4.0 (λ b o z e ws fits.
        let w : Val = both (vptr b o) z in
        let typed = loose_good R Z heap_laws.the_row_laws ghosts b o z fits in
        suffices ! (Run (w ∷ [])) (subst (λ (us : List Val). ent 𝓤 (Run (w ∷ [])) (Run us)) (sym (λ i.
        ws i ++ [])) (id⊢ 𝓤 (Run (w ∷ [])))) $ enter ! _ _ _ _ _ $
        alloc_all ! (λ l. pass_all ! refl (typed, tt) $
        sets ! (of_opd ! (get_in ! (fld ! refl (stop !)) (sub ! 0 refl (whole !)))) refl (tt, tt) $
        sets ! (of_opd ! (get_in ! (fld ! refl (stop !)) (sub ! 1 refl (whole !)))) refl fits $
        sets ! (of_opd ! (get ! refl)) refl (tt, tt) $
        sets ! (agg ! (and_then ! (get ! refl) (and_then ! (get ! refl) (no_more !)))) refl typed $
        returns ! (look_at ! 0 refl) $ free_all ! refl $ keep ! (1 ∷ 0 ∷ []) $
        hands_out H (Says x) 𝓤 𝓛 (block_ptr b o) x.alloc z (box_owns (ghosts.dealloc_token x.alloc) R
        (block_ptr b o) x.value) (d x b o) (own x b o z) (so x b o))))
