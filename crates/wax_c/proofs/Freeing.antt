-- A call that frees a handle. Null is left alone. What lies at any other handle is dropped as a box.
use Rattle.std.proofs.Common.{◌≡◌, List, [], ◌∷◌, ◌++◌, refl, ap, lit<, ℕ, w64}
use Rattle.std.proofs.GlobalToken.{dealloc_token-Testable}
use Rattle.std.proofs.impls.GlobalAllocator.allocate.Symbol.{code as allocate}
use Rattle.std.proofs.impls.GlobalAllocator.grow.Symbol.{code as grow}
use Rattle.std.proofs.impls.GlobalAllocator.shrink.Symbol.{code as shrink}
use Rattle.std.proofs.impls.GlobalAllocator.deallocate.Symbol.{code as free}
use Rattle.std.specs.{contracts.impls.GlobalAllocator.TheImpl.{ghosts, dict}, Box.Ownership.box_owns}
use Rattle.std.specs.Prelude.{Option, Some, None}
use Rattle.wax_c.proofs.{Exports.{Gives, Returned, Z, ended, function, spelled, told}, Held.Held}
use Rattle.wax_c.proofs.Lending.{unbounded}
use base.Logic.{SProp, ent, ex, guard, guard_i, sep, via, emp, id⊢, never, fst∗, snd∗}
use base.{Fml.{Fml, ftrue, fsep, flft, feq}, Fraction.full_share}
use contract.{Running.{Running, MachineTables, tables}, BorrowLft.{◌⊑◌, ⊑_static}}
use contract.Monad.{fact, fact_i, fact_use}
use lib.Dec.{T as Holds}
use mir.Syntax.{Callee, Dict, Fn, ty_unit, ty_bool, ty_ptr, a_type, impl, tcons, tnil, dcons, dnil, place}
use mir.Syntax.{copy, int, assign, rv_opd, op2, ptr_eq, opd_unit, cond, skip, seq, call, return, Body}
use mir.{Raw.raw as bare, Val.{Val, vptr, vunit, has_ty, WT}}
use prog.{Model.Model, Wired.Wired, Wp.{Closed, WpFn}}
use seplogic.Ra.Ura.{Ura}
use types.ByLocal.{env, alloc_all, pass_all, free_all, look_at, get, sets, lands_as}
use types.Kit.{Item, by, Sq, given, learn, at_ret, prop, ‵, raw, ◌⊛◌, some, later, ◌$◌, ◌∵◌, !, qed, move}
use types.Kit.{drop, use0, use1, use2, split, join, pick, fsplit, fjoin, feq_i, feq_l, regoal, suffices, show}
use types.Kit.{frame, rewrite, await, done}
use types.Run.{and_then, no_more, of_opd, lit, bin, unit_lit, first, branches, skips, exec, calls, returns}
use types.{Run.{returns_within, enter}, Logic.{Logic, sem}, Tokens.lft_new}
use denote.RawPtr.{Ptr, block_ptr, null_ptr, rawptr_vals, rawptr_Tells, in_a_block, lies_at, Testable}
use denote.{RawPtr.tests_null, Triple.Clauses.{Clauses, Ended, ensured, closing}, Builtin.{unit, RawPtr}}
use denote.{Exit.{yes, no}, Laws.{Is, shows}, Memory.lone, Param.{layout, arg, bounded}}
use denote.{Param.Laws.{Laws, arg_laws}, RattleType.{RattleType, owns}, Signature.plain}
use denote.{Steps.{nothing, peeks, only}, Triple.Call.calls_at, Triple.Spec.triple_of}
use denote.{Triple.Statement.{Contract, Triple}, Triple.Table.{entered, framed}}
use Rattle.std.proofs.alloc.Global.TheLaws as heap_laws
use Rattle.std.proofs.boxed.Box.TheLaws as box_laws
use Rattle.std.proofs.boxed.Box.from_raw.Met as from_met
use Rattle.std.proofs.boxed.Box.from_raw.Symbol as from_symbol
use Rattle.std.proofs.impls.GlobalAllocator.TheImpl.Met as alloc_met
use Rattle.std.specs.contracts.boxed.Box as box
use Rattle.std.specs.contracts.boxed.Box.from_raw as from
use Rattle.wax_c.proofs.Destruct++none.drop.Symbol as glue
use denote.Param.NoDrop as no_drop

abbrev ZA : RattleType
ZA = arg (bare (layout Z)) no Z

abbrev ZA_laws : Laws ZA
ZA_laws = arg_laws (bare (layout Z)) no Z heap_laws.the_row_laws refl

abbrev dd : Dict
dd = impl ("wax_c::Destruct++none::drop" ∷ []) (tcons (layout ZA) tnil) dnil

-- `if handle.is_null() { return; } d(k(alloc, handle as *mut _));`
abbrev after : Callee → Callee → Body
after k d =
    seq (assign (place 6 []) (rv_opd (copy (place 2 []))))
    (seq (call k (copy (place 1 []) ∷ copy (place 6 []) ∷ []) (place 5 []))
    (seq (call d (copy (place 5 []) ∷ []) (place 4 [])) (seq (assign (place 0 []) (rv_opd opd_unit)) return)))

-- B: the type of the box
abbrev pub freeing : Callee → Callee → RattleType → Fn
freeing k d B = function 0 2 (ty_unit ∷ layout Z ∷ ty_ptr ∷ ty_bool ∷ ty_unit ∷ layout B ∷ ty_ptr ∷ [])
    (seq (assign (place 3 []) (op2 ptr_eq (copy (place 2 [])) (int w64 0)))
    (seq (cond (copy (place 3 [])) (seq (assign (place 0 []) (rv_opd opd_unit)) return) skip) (after k d)))

abbrev exported : Ended
exported = ended 0 (plain (λ _. Z) ∷ plain (λ _. RawPtr) ∷ []) (yes, (yes, tt)) unit

-- T: what lies at the handle
module _ (T : Held) (plain_ty : bare (bare (layout T.R)) ≡ bare (layout T.R)) where
  open T use {R, laws, Value, lies}

  abbrev B : RattleType
  B = box.the_row R Z ghosts

  abbrev RA : RattleType
  RA = arg (bare (layout R)) no R

  abbrev owned_box : Z.Denot → Ptr → R.Denot → Fml
  owned_box x = box_owns (ghosts.dealloc_token x) R

  abbrev dropper : Ended
  dropper = ended 0 (plain (λ _. B) ∷ []) (yes, tt) unit

  module _ {M : Type 1} {𝓤 : Ura M} (𝓛 : Logic 𝓤) where
    abbrev drops : Clauses 𝓤 dropper
    drops κs a = record { ghost = Unit {0}; requires = λ _. emp 𝓤; ensures = λ _ r e. emp 𝓤 }

    -- its pointer may be compared with null
    tested : (x : Z.Denot) (p : Ptr) (h : R.Denot) → let P = sem 𝓛 (owned_box x p h) in
        ent 𝓤 P (guard 𝓤 (Testable p) P)
    tested x p h = let τ = bare (lone R.mir) in let tok = ghosts.dealloc_token x τ p in
        fact_use 𝓤 (Testable p) (via 𝓤 _ (snd∗ 𝓤 (sem 𝓛 (lies_at R full_share p h)) (sem 𝓛 tok))
        (dealloc_token-Testable 𝓛 x τ p)) (guard_i 𝓤 (Testable p) (sem 𝓛 (owned_box x p h)))

  module _ {M : Type 1} (𝓤 : Ura M) (𝓛 : Logic 𝓤) (𝓜 : Model 𝓤 𝓛.H) (𝓡 : Running 𝓤 𝓛.H 𝓜) where
    abbrev 𝓣 : MachineTables 𝓤 𝓛.H 𝓜
    𝓣 = tables 𝓤 𝓛.H 𝓜 𝓡 𝓡.env

    module _ (α β : ℕ) (x : Z.Denot) (b o : ℕ) (h : R.Denot) where
      abbrev Called : Contract 𝓤
      Called = triple_of 𝓛 (from.signature RA ZA ghosts dict dd)
          (from.spec RA ZA ghosts dict dd 𝓛 𝓜.mem 𝓡.returns)

      abbrev called : Called.Ghost
      called = (
        (
          (α ∷ [], (β ∷ [], tt)),
          (full_share, (full_share, tt)),
          tt,
          (x, (block_ptr b o, tt)),
          (told x, (vptr b o ∷ [], tt)),
        ),
        h,
      )

      abbrev Toks : SProp 𝓤
      Toks = sep 𝓤 (𝓛.A.lft (α ∷ []) full_share) (sep 𝓤 (𝓛.A.lft (β ∷ []) full_share) (emp 𝓤))

      -- what `Box::from_raw` asks and gives, in R's own words
      abbrev pub Asks : SProp 𝓤
      Asks = let p = block_ptr b o in
          sep 𝓤 (sep 𝓤 Toks (sem 𝓛 (owns (Z ∷ RawPtr ∷ []) (x, (p, tt)) (told x, (vptr b o ∷ [], tt)))))
          (sep 𝓤 (fact 𝓤 ((α ∷ []) ⊑ R.lives))
          (sep 𝓤 (fact 𝓤 ((β ∷ []) ⊑ Z.lives)) (sem 𝓛 (owned_box x p h))))

      abbrev Ensured : B.Denot → SProp 𝓤
      Ensured r = let c = from.clauses RA ZA ghosts dict dd 𝓛 𝓜.mem 𝓡.returns in
          ensured 𝓛 (from.ended RA ZA ghosts dict dd) c called.0.0 called.0.3 h r

      abbrev Made : Val → B.Denot → SProp 𝓤
      Made u r = sep 𝓤 (sep 𝓤 Toks (sem 𝓛 (B.own_val r (u ∷ [])))) (Ensured r)

      abbrev pub Makes : Val → SProp 𝓤
      Makes u = 𝓛.H.⇛ (ex 𝓤 (Made u))

    abbrev Boxes : Callee → Type 1
    Boxes k = (α β : ℕ) (x : Z.Denot) (b o : ℕ) (h : R.Denot)
        → ent 𝓤 (Asks α β x b o h) (𝓣.C k (heap_laws.the_told.val x ∷ vptr b o ∷ []) (Makes α β x b o h))

    abbrev Drops : Callee → Type 1
    Drops d = Triple 𝓤 (𝓣.C d) (triple_of 𝓛 dropper.signature (closing 𝓛 dropper (drops 𝓛)))

    -- `Box::from_raw` at this type
    pub boxes : Wired 𝓡.env from_symbol.code → Wired 𝓡.env allocate → Wired 𝓡.env free
        → Wired 𝓡.env grow → Wired 𝓡.env shrink → Wired 𝓡.env glue.code
        → (α β : ℕ) (x : Z.Denot) (b o : ℕ) (h : R.Denot)
        → let K = Called α β x b o h in let z = called α β x b o h in
        let ts = bounded (a_type ∷ a_type ∷ []) (RA, (ZA, tt)) (dcons dict (dcons dd dnil)) in
        ent 𝓤 (K.pre z) (𝓣.C (from_symbol.name ts) (K.args z) (K.post z))
    unfolding Rattle.wax_c.proofs.Destruct++none.drop.Code.code
    boxes w a b c s g α β x b' o h =
        let RA_laws : Laws RA = arg_laws (bare (layout R)) no R laws plain_ty in
        from_met.met 𝓤 𝓛 𝓜 𝓡 w RA ZA RA_laws ZA_laws ghosts dict dd (alloc_met.passed 𝓡.env a b c s M 𝓤 𝓛 𝓜 𝓡)
        (no_drop.glues "wax_c::Destruct++none::drop" 𝓡.env g ZA ZA_laws M 𝓤 𝓛 𝓜 𝓡) (called α β x b' o h)

  -- owned: what the handle owns
  module _ (owned : Z.Denot → Ptr → Option Value → Fml)
      (none : (x : Z.Denot) (p : Ptr) → owned x p None ≡ feq Ptr p null_ptr)
      (one : (x : Z.Denot) (p : Ptr) (g : Value) → owned x p (Some g) ≡ owned_box x p (lies g))
      {M : Type 1} (𝓤 : Ura M) (𝓛 : Logic 𝓤) where
    abbrev promised : Clauses 𝓤 exported
    promised κs a =
        record { ghost = Option Value; requires = λ g. sem 𝓛 (owned a.0 a.1.0 g); ensures = λ g r e. emp 𝓤 }

    abbrev Out : Unit {0} × (Unit {0} × Unit {0}) → SProp 𝓤
    Out ws = sep 𝓤 (sem 𝓛 (fsep ftrue (fsep ftrue ftrue))) (emp 𝓤)

    abbrev End : Val → SProp 𝓤
    End = Gives 𝓛 unit (emp 𝓤) (λ _. ex 𝓤 Out)

    ends : Sq 𝓛 [] (prop (End vunit))
    ends =
        let Back = Returned 𝓛 unit (emp 𝓤) (λ _. ex 𝓤 Out) vunit in
        suffices ! (ex 𝓤 Back) (𝓛.laws.⇛_intro _) $ show ! Back tt $
        feq_i ! (List Val) (vunit ∷ []) (vunit ∷ []) refl $ nothing ! $ join ! $ frame ! $
        show ! Out (tt, (tt, tt)) $ nothing ! $ nothing ! $ nothing ! $ fjoin ! $ nothing ! $ fjoin ! $ done !

    module _ (𝓜 : Model 𝓤 𝓛.H) (𝓡 : Running 𝓤 𝓛.H 𝓜) where
      abbrev 𝓜𝓣 : MachineTables 𝓤 𝓛.H 𝓜
      𝓜𝓣 = tables 𝓤 𝓛.H 𝓜 𝓡 𝓡.env

      module _ (k d : Callee) (met : Boxes 𝓤 𝓛 𝓜 𝓡 k) (drop_met : Drops 𝓤 𝓛 𝓜 𝓡 d) (x : Z.Denot)
          (fits : Holds (has_ty (layout Z) (heap_laws.the_told.val x)) × WT (heap_laws.the_told.val x)) where
        abbrev Runs : Ptr → SProp 𝓤
        Runs p = WpFn 𝓤 𝓛.H 𝓜𝓣.C 𝓜𝓣.Λ (freeing k d B) (told x ++ (rawptr_vals p ++ [])) End

        at_each : (p : Ptr) (g : Option Value)
            → ent 𝓤 (sep 𝓤 (sem 𝓛 (Z.own_val x (told x))) (sem 𝓛 (owned x p g))) (Runs p)
        at_each p None =
            qed 𝓛 (‵ (Z.own_val x (told x)) ∷ ‵ (owned x p None) ∷ []) ∵ drop ! $
            rewrite ! 0 (λ (F : Fml). ‵ F) (none x p) refl $ feq_l ! (λ is_null.
            regoal ! (λ q. prop (Runs q)) is_null refl $ enter ! _ _ _ _ _ $
            alloc_all ! (λ l. pass_all ! refl (fits, ((tt, record { fits = lit< tt }), tt)) $
            sets ! (bin ! (get ! refl) (lit ! tt) tt) refl (tt, tt) $ first ! $ branches ! (get ! refl)
            (λ _. sets ! (of_opd ! (unit_lit !)) refl (tt, tt) $
            returns_within ! End refl (look_at ! 0 refl) $ free_all ! refl $ ends) (λ wrong. absurd wrong)))
        at_each p (Some g) =
            let h = lies g in let tok = ghosts.dealloc_token x in let e = freeing k d B in
            qed 𝓛 (‵ (Z.own_val x (told x)) ∷ ‵ (owned x p (Some g)) ∷ []) ∵
            rewrite ! 1 (λ (F : Fml). ‵ F) (one x p g) refl $ move ! (1 ∷ []) $
            in_a_block ! p (λ q. owned_box x q h)
            (fst∗ 𝓤 (never 𝓤) (sem 𝓛 (tok (bare (lone R.mir)) null_ptr))) (λ b o is_there.
            regoal ! (λ q. prop (Runs q)) is_there refl $
            let p = block_ptr b o in let z = heap_laws.the_told.val x in
            use1 𝓛 (given (Testable p) (‵ (owned_box x p h))) (tested 𝓛 x p h) $ learn ! (λ may.
            -- [what lies there, and the right to free it; the allocator]
            enter ! _ _ _ _ _ $ alloc_all ! (λ l. pass_all ! refl (fits, ((tt, tt), tt)) $
            sets ! (bin ! (get ! refl) (lit ! tt) (tests_null p may)) refl (tt, tt) $
            first ! $ branches ! (get ! refl) (λ wrong. absurd wrong)
            (λ _. skips ! $ exec ! 𝓜𝓣.C 𝓜𝓣.Λ (env e.locals l) (after k d) (at_ret _ End) $
            sets ! (of_opd ! (get ! refl)) refl (tt, tt) $
            -- from_raw(alloc, ..)
            lft_new ! tt (λ α. lft_new ! tt (λ β.
            let toks : Item 𝓤 = ‵ (flft (α ∷ []) full_share) ⊛ ‵ (flft (β ∷ []) full_share) ⊛ ‵ ftrue in
            nothing ! $ move ! (1 ∷ 0 ∷ []) $ join ! $ move ! (1 ∷ 0 ∷ []) $ join ! $ move ! (1 ∷ []) $
            use0 𝓛 (raw (fact 𝓤 ((β ∷ []) ⊑ Z.lives))) (fact_i 𝓤 _ (emp 𝓤) (⊑_static (β ∷ []))) $ join ! $
            use0 𝓛 (raw (fact 𝓤 ((α ∷ []) ⊑ R.lives))) (fact_i 𝓤 _ (emp 𝓤) (unbounded R T.free α)) $ join ! $
            nothing ! $ feq_i ! (List Val) (vptr b o ∷ []) (vptr b o ∷ []) refl $ fjoin ! $
            move ! (3 ∷ 0 ∷ []) $ fjoin ! $ move ! (2 ∷ 0 ∷ []) $ join ! $ join ! $
            use1 𝓛 (raw (𝓜𝓣.C k (z ∷ vptr b o ∷ []) (Makes 𝓤 𝓛 𝓜 𝓡 α β x b o h))) (met α β x b o h) $
            calls ! (framed 𝓤 𝓛.H 𝓜 𝓜𝓣) (λ u. later (some (λ (r : B.Denot). (toks ⊛ ‵ (B.own_val r (u ∷ [])))
            ⊛ raw (Ensured 𝓤 𝓛 𝓜 𝓡 α β x b o h r)))) (and_then ! (get ! refl) (and_then ! (get ! refl)
            (no_more !))) (λ u. await ! tt $ pick ! (λ r. split ! $ move ! (1 ∷ []) $ drop ! $ split ! $
            drop ! $ peeks ! B (Is B) (shows 𝓛 B) r (u ∷ []) (λ is. lands_as ! refl refl
            (((box_laws.the_row_laws R Z ghosts laws heap_laws.the_row_laws).lawful 𝓛).typed r _ is).0 $
            -- d(..)
            let G = triple_of 𝓛 dropper.signature (closing 𝓛 dropper (drops 𝓛)) in
            let made : G.Ghost = ((tt, tt, tt, (r, tt), (u ∷ [], tt)), tt) in
            nothing ! $ move ! (1 ∷ 0 ∷ []) $ fjoin ! $ nothing ! $ join ! $ nothing ! $ move ! (1 ∷ 0 ∷ []) $
            use2 𝓛 (raw (G.pre made)) (id⊢ 𝓤 _) $
            calls_at ! (framed 𝓤 𝓛.H 𝓜 𝓜𝓣) G drop_met made (and_then ! (get ! refl) (no_more !)) (λ v.
            use1 𝓛 (later (some (λ (n : Unit {0}). (‵ ftrue ⊛ ‵ (unit.own_val n (v ∷ [])))
            ⊛ raw (ensured 𝓛 dropper (drops 𝓛) tt (r, tt) tt n)))) (id⊢ 𝓤 _) $
            await ! tt $ pick ! (λ n. split ! $ move ! (1 ∷ []) $ drop ! $ split ! $ drop ! $
            feq_l ! (λ is_unit. lands_as ! (ap only is_unit) refl (tt, tt) $
            sets ! (of_opd ! (unit_lit !)) refl (tt, tt) $ returns ! (look_at ! 0 refl) $ free_all ! refl $
            ends))))))))))))

      pub frees : {n k d : Callee} → Closed 𝓤 𝓛.H 𝓜𝓣.C 𝓜𝓣.Λ n (freeing k d B) → Boxes 𝓤 𝓛 𝓜 𝓡 k
          → Drops 𝓤 𝓛 𝓜 𝓡 d
          → Triple 𝓤 (𝓜𝓣.C n) (triple_of 𝓛 exported.signature (closing 𝓛 exported promised))
      frees {n} {k} {d} closed met drop_met =
          let C = triple_of 𝓛 exported.signature (closing 𝓛 exported promised) in let e = freeing k d B in
          entered 𝓤 𝓛.H C 𝓜𝓣.C 𝓜𝓣.Λ n e closed (λ y. let a = y.0.3 in let x = a.0 in let p = a.1.0 in
          spelled 𝓛 exported.signature tt tt (told, (rawptr_vals, tt))
          (heap_laws.the_told.tells, (rawptr_Tells, tt)) a (sem 𝓛 (owned x p y.1)) (λ us.
          WpFn 𝓤 𝓛.H 𝓜𝓣.C 𝓜𝓣.Λ e (us.0 ++ (us.1.0 ++ [])) (C.post y)) y.0.4 (λ are.
          qed 𝓛 ((‵ ftrue ⊛ ‵ (owns (Z ∷ RawPtr ∷ []) (x, (p, tt)) (told x, (rawptr_vals p, tt))))
          ∷ ‵ (owned x p y.1) ∷ []) ∵ split ! $ drop ! $ fsplit ! $ move ! (1 ∷ []) $ drop ! $
          by ! (at_each k d met drop_met x ((heap_laws.the_row_laws.lawful 𝓛).typed x _ are.0).0 p y.1)))
