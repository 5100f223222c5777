-- The handle is taken apart, and what lies there is freed.
use Rattle.std.proofs.Common.{[], ◌∷◌, ◌++◌, ◌≡◌, refl, sym, subst, ap, List, None}
use Rattle.wax_c.proofs.{Exports.Returned, Making.handle_val, Opening.{handle_good, handle_out, may_free}}
use Rattle.wax_c.proofs.{session.close.Statement.statement, globs.wax_glob_free.Met.met}
use Rattle.wax_c.specs.{GlobOwned.maybe_glob_at, contracts.handle.GlobHandle.the_row as Handle}
use base.{Logic.{SProp, emp, ent, ex, id⊢, sep}, Fml.{ftrue, fsep}}
use contract.{Monad.fact, Running.tables}
use lib.Dec.{T}
use mir.{Syntax.ty_unit, Val.{Val, vunit, has_ty, WT}}
use prog.Wp.{WpFn}
use types.ByLocal.{alloc_all, pass_all, free_all, look_at, get, get_in, sets, lands_last, env}
use types.Kit.{‵, raw, ◌⊛◌, some, later, at_ret, ◌$◌, ◌∵◌, !, qed, done, move, drop, use1, use2, split, join}
use types.{Kit.{fsplit, fjoin, feq_i, feq_l, pick, await, suffices, show, frame}, Logic.sem}
use types.Run.{enter, of_opd, unit_lit, no_more, and_then, first, blocks, exec, returns, stop, fld}
use types.Part.{whole, sub}
use denote.{Builtin.unit, RattleType.owns, RawPtr.{null_ptr, ptr_val, rawptr_vals}}
use denote.{Steps.{nothing, only, heard}, Triple.Call.calls_at_last, Triple.Clauses.lasts}
use denote.{Triple.Spec.triple_of, Triple.Table.{entered, framed}}
use Rattle.wax_c.specs.contracts.session.close as f
use Rattle.wax_c.proofs.session.close.Code as code
use Rattle.wax_c.specs.contracts.globs.wax_glob_free as g

pub close_spec : {M : Type 1} → statement M
close_spec {M} 𝓤 𝓛 𝓜 𝓡 wired =
    let 𝓣 = tables 𝓤 𝓛.H 𝓜 𝓡 𝓡.env in let C = triple_of 𝓛 f.signature (f.spec 𝓛 𝓜.mem 𝓡.returns) in
    entered 𝓤 𝓛.H C 𝓣.C 𝓣.Λ f.Key.name code.function (code.unfolded 𝓤 𝓛.H 𝓜 𝓡 wired) (λ y. let x = y.0.3.0 in
    let Run : List Val → SProp 𝓤 = λ ws. WpFn 𝓤 𝓛.H 𝓣.C 𝓣.Λ code.function ws (C.post y) in
    qed 𝓛 ((‵ ftrue ⊛ ‵ (owns (Handle ∷ []) (x, tt) y.0.4))
    ∷ raw (fact 𝓤 (x.held ≡ None → x.at ≡ null_ptr)) ∷ []) ∵
    move ! (1 ∷ []) $ heard ! _ (λ empty. split ! $ drop ! $ fsplit ! $
    handle_out ! x y.0.4.0 (λ h is fits.
    suffices ! (Run (handle_val x.at h ∷ [])) (subst (λ (us : List Val). ent 𝓤 (Run (handle_val x.at h ∷ []))
    (Run us)) (sym (λ i. is i ++ [])) (id⊢ 𝓤 (Run (handle_val x.at h ∷ [])))) $
    use1 𝓛 (‵ (maybe_glob_at x.alloc x.at x.held)) (may_free 𝓛 x.alloc x.at x.held empty) $
    enter ! _ _ _ _ _ $ alloc_all ! (λ l. pass_all ! refl (handle_good x.at h fits, tt) $
    first ! $ blocks ! $
    sets ! (of_opd ! (get_in ! (fld ! refl (stop !)) (sub ! 1 refl (whole !)))) refl fits $
    -- [what may be freed; the allocator; nothing]
    let G = triple_of 𝓛 g.signature (g.spec 𝓛 𝓜.mem 𝓡.returns) in
    let z : G.Ghost = ((tt, tt, tt, (x.alloc, (x.at, tt)), (h ∷ [], (rawptr_vals x.at, tt))), x.held) in
    move ! (1 ∷ 0 ∷ 2 ∷ []) $
    nothing ! $ feq_i ! (List Val) (ptr_val x.at ∷ []) (ptr_val x.at ∷ []) refl $ fjoin ! $
    move ! (1 ∷ 0 ∷ []) $ fjoin ! $
    nothing ! $ join ! $ use2 𝓛 (raw (G.pre z)) (id⊢ 𝓤 _) $
    calls_at_last ! (framed 𝓤 𝓛.H 𝓜 𝓣) G (met 𝓤 𝓛 𝓜 𝓡 (code.calls-wax_c::globs::wax_glob_free 𝓡.env wired)) z
    (and_then ! (get ! refl) (and_then ! (get_in ! (fld ! refl (stop !)) (sub ! 0 refl (whole !)))
    (no_more !)))
    (λ v. use1 𝓛 (later (some (λ (r : Unit {0}). (‵ ftrue ⊛ ‵ (unit.own_val r (v ∷ []))) ⊛
    some (λ (ws : Unit {0} × (Unit {0} × Unit {0})). ‵ (lasts g.ended tt z.0.3 ws) ⊛ ‵ ftrue)))) (id⊢ 𝓤 _) $
    await ! tt $ pick ! (λ r. split ! $ move ! (1 ∷ []) $ drop ! $ split ! $ drop ! $ feq_l ! (λ is_unit.
    lands_last ! refl (subst (λ (w : Val). T (has_ty ty_unit w) × WT w) (sym (ap only is_unit)) (tt, tt)) $
    exec ! 𝓣.C 𝓣.Λ (env code.Mir.locals l) code.Mir.t-2 (at_ret _ (C.post y)) $
    sets ! (of_opd ! (unit_lit !)) refl (tt, tt) $ returns ! (look_at ! 0 refl) $ free_all ! refl $ drop ! $
    let Out : Unit {0} × Unit {0} → SProp 𝓤 = λ ws. sep 𝓤 (sem 𝓛 (fsep ftrue ftrue)) (emp 𝓤) in
    let Back = Returned 𝓛 unit (emp 𝓤) (λ _. ex 𝓤 Out) vunit in
    suffices ! (ex 𝓤 Back) (𝓛.laws.⇛_intro _) $ show ! Back tt $
    feq_i ! (List Val) (vunit ∷ []) (vunit ∷ []) refl $ nothing ! $ join ! $ frame ! $ show ! Out (tt, tt) $
    nothing ! $ nothing ! $ nothing ! $ fjoin ! $ done !)))))))
