-- The handle is taken apart, what lies there is asked, and the handle is put together again.
use Rattle.std.proofs.Common.{[], ◌∷◌, ◌++◌, ◌≡◌, refl, sym, ◌∙◌, subst, ap, List, Some, Option, ℤ, w32}
use Rattle.wax_c.proofs.{Exports.Z, Making.handle_val}
use Rattle.wax_c.proofs.Opening.{handle_good, handle_in, handle_out, or_held, pair_good, pair_in}
use Rattle.wax_c.proofs.{session.ask.Statement.statement, globs.wax_glob_is_match.Met.met}
use Rattle.wax_c.specs.{GlobOwned.{glob_at, owned_glob_at}, Outcomes.{DecidesAs, SaysMatch}}
use Rattle.wax_c.specs.contracts.handle.GlobHandle.{the_row as Handle}
use Rattle.wax.specs.GlobView.{GlobView}
use base.{Logic.{SProp, emp, ent, ex, id⊢, sep}, Fml.{ftrue, fsep, flft}}
use contract.{Monad.{fact, fact_i}, Running.tables}
use mir.{Syntax.named, Val.{Val, vstruct, of_list}}
use prog.Wp.{WpFn}
use types.Part.{agg, whole, sub}
use types.ByLocal.{alloc_all, pass_all, free_all, look_at, get, get_in, sets, lands_last, env}
use types.Kit.{‵, raw, ◌⊛◌, some, later, at_ret, ◌$◌, ◌∵◌, !, qed, done, move, drop, use0, use1, use2, split}
use types.{Kit.{join, fsplit, fjoin, feq_i, pick, await, rewrite, suffices, show, frame}, Logic.sem}
use types.Run.{enter, of_opd, no_more, and_then, first, blocks, exec, returns, stop, fld}
use denote.{Slice.{ShrSlice, shr_slice_vals, shr_slice_Tells, shr_slice_Lawful}, Laws.{Is, shows}}
use denote.{Signed.sint_Lawful, Struct.Tuple.Tuple, Builtin.{u8, i32}, RattleType.owns}
use denote.{RawPtr.{ptr_val, rawptr_vals}, Steps.{nothing, heard, peeks}, Triple.Call.calls_at_last}
use denote.{Triple.Clauses.lasts, Triple.Spec.{Back, triple_of}, Triple.Table.{entered, framed}}
use Rattle.wax_c.specs.contracts.session.ask as f
use Rattle.wax_c.proofs.session.ask.Code as code
use Rattle.wax_c.specs.contracts.globs.wax_glob_is_match as g
use Rattle.std.proofs.alloc.Global.TheLaws as heap_laws

pub ask_spec : {M : Type 1} → statement M
ask_spec {M} 𝓤 𝓛 𝓜 𝓡 wired =
    let 𝓣 = tables 𝓤 𝓛.H 𝓜 𝓡 𝓡.env in let C = triple_of 𝓛 f.signature (f.spec 𝓛 𝓜.mem 𝓡.returns) in
    entered 𝓤 𝓛.H C 𝓣.C 𝓣.Λ f.Key.name code.function (code.unfolded 𝓤 𝓛.H 𝓜 𝓡 wired) (λ y. let x = y.0.3.0 in
    let κs = y.0.0 in let qs = y.0.1 in let p = y.0.3.1.0 in let κ = κs.0 in let q = qs.0 in
    let Path = ShrSlice (named 0) κ u8 in
    let Run : List Val → SProp 𝓤 = λ ws. WpFn 𝓤 𝓛.H 𝓣.C 𝓣.Λ code.function ws (C.post y) in
    qed 𝓛 (((‵ (flft κ q) ⊛ ‵ ftrue) ⊛ ‵ (owns (Handle ∷ Path ∷ []) (x, (p, tt)) y.0.4))
    ∷ raw (fact 𝓤 ((g : GlobView) × (x.held ≡ Some g))) ∷ []) ∵
    move ! (1 ∷ []) $ heard ! _ (λ has. split ! $ move ! (1 ∷ []) $ fsplit ! $ move ! (1 ∷ []) $ fsplit ! $
    peeks ! Path (Is Path) (shows 𝓛 Path) p y.0.4.1.0 (λ told.
    let same : y.0.4.1.0 ≡ shr_slice_vals p = shr_slice_Tells (named 0) κ u8 p _ told in
    rewrite ! 0 (λ (vs : List Val). ‵ (Path.own_val p vs)) same refl $
    move ! (2 ∷ []) $ handle_out ! x y.0.4.0 (λ h is fits.
    let args : List Val = handle_val x.at h ∷ shr_slice_vals p in
    suffices ! (Run args) (subst (λ (us : List Val). ent 𝓤 (Run args) (Run us))
    (sym (λ i. is i ++ (same i ++ [])))
    (id⊢ 𝓤 (Run args))) $
    rewrite ! 0 (λ (held : Option GlobView). ‵ (owned_glob_at x.alloc x.at held)) has.1 refl $
    -- [what lies there; the allocator; the path; nothing; the tokens]
    enter ! _ _ _ _ _ $ alloc_all ! (λ l.
    pass_all ! refl (
      handle_good x.at h fits,
      (
        ((shr_slice_Lawful 𝓛 (named 0) κ u8).typed p _
            (subst (Is Path p) same told)).0,
        tt,
      ),
    ) $ first ! $ blocks ! $
    sets ! (of_opd ! (get_in ! (fld ! refl (stop !)) (sub ! 1 refl (whole !)))) refl fits $
    let Alloc = ‵ (Z.own_val x.alloc (h ∷ [])) in
    move ! (1 ∷ []) $
    use1 𝓛 (Alloc ⊛ Alloc) ((heap_laws.the_row_copy.copies M 𝓤 𝓛).twice x.alloc (h ∷ [])) $ split ! $
    -- [the allocator, twice; what lies there; the path; nothing; the tokens]
    let G = triple_of 𝓛 g.signature (g.spec 𝓛 𝓜.mem 𝓡.returns) in
    let z : G.Ghost = (
      (
        κs,
        qs,
        y.0.2,
        (x.alloc, (x.at, (p, tt))),
        (
          h ∷ [],
          (
            rawptr_vals x.at,
            (shr_slice_vals p, tt),
          ),
        ),
      ),
      has.0,
    ) in
    move ! (4 ∷ 3 ∷ []) $ move ! (1 ∷ 0 ∷ []) $ fjoin ! $
    feq_i ! (List Val) (ptr_val x.at ∷ []) (ptr_val x.at ∷ []) refl $ fjoin ! $
    move ! (1 ∷ 0 ∷ []) $ fjoin ! $
    move ! (3 ∷ 0 ∷ []) $ join ! $ move ! (0 ∷ 2 ∷ []) $ use2 𝓛 (raw (G.pre z)) (id⊢ 𝓤 _) $
    calls_at_last ! (framed 𝓤 𝓛.H 𝓜 𝓣) G
    (met 𝓤 𝓛 𝓜 𝓡 (code.calls-wax_c::globs::wax_glob_is_match 𝓡.env wired)) z
    (and_then ! (get ! refl) (and_then ! (get_in ! (fld ! refl (stop !)) (sub ! 0 refl (whole !)))
    (and_then ! (get ! refl) (no_more !)))) (λ v.
    use1 𝓛 (later (some (λ (r : ℤ). ((‵ (flft κ q) ⊛ ‵ ftrue) ⊛ ‵ (i32.own_val r (v ∷ []))) ⊛
    some (λ (ws : Unit {0} × (Unit {0} × (Unit {0} × Unit {0}))). ‵ (lasts g.ended κs z.0.3 ws) ⊛
    (‵ (glob_at x.alloc x.at has.0) ⊛ raw (fact 𝓤 (DecidesAs (SaysMatch has.0) p.now r))))))) (id⊢ 𝓤 _) $
    await ! tt $ pick ! (λ r. split ! $ split ! $ move ! (1 ∷ []) $
    peeks ! i32 (Is i32) (shows 𝓛 i32) r (v ∷ []) (λ number.
    let typed = ((sint_Lawful 𝓛 w32).typed r _ number).0 in
    move ! (2 ∷ []) $ pick ! (λ ws. split ! $ drop ! $ split ! $ move ! (1 ∷ []) $ heard ! _ (λ answers.
    -- [what lies there; the number; the tokens; the allocator]
    lands_last ! refl typed $ exec ! 𝓣.C 𝓣.Λ (env code.Mir.locals l) code.Mir.t-2 (at_ret _ (C.post y)) $
    sets ! (of_opd ! (get ! refl)) refl typed $
    sets ! (agg ! (and_then ! (get ! refl) (and_then ! (get ! refl) (no_more !)))) refl
    (pair_good x.at h v fits typed) $ returns ! (look_at ! 0 refl) $ free_all ! refl $
    rewrite ! 0 (λ (held : Option GlobView). ‵ (owned_glob_at x.alloc x.at held)) (sym has.1) refl $
    move ! (0 ∷ 3 ∷ 1 ∷ 2 ∷ []) $ handle_in ! x h $ pair_in ! x h r v $ move ! (1 ∷ 0 ∷ []) $ join ! $
    let w : Val = vstruct (of_list (handle_val x.at h ∷ v ∷ [])) in
    let Same = fact 𝓤 (x ≡ x) in
    let Says = fact 𝓤 ((g : GlobView) → x.held ≡ Some g → DecidesAs (SaysMatch g) p.now r) in
    let Out : Unit {0} × (Unit {0} × Unit {0}) → SProp 𝓤 =
    λ ws. sep 𝓤 (sem 𝓛 (fsep ftrue (fsep ftrue ftrue))) (sep 𝓤 Same Says) in
    let Toks = sep 𝓤 (sem 𝓛 (flft κ q)) (emp 𝓤) in
    let Ends : (Tuple (Handle ∷ i32 ∷ [])).Denot → SProp 𝓤 = λ r'. sep 𝓤 (Back 𝓛 f.signature y.0 w r')
    ((f.spec 𝓛 𝓜.mem 𝓡.returns y.0.0 y.0.3).ensures y.1 r') in
    suffices ! (ex 𝓤 Ends) (𝓛.laws.⇛_intro _) $ show ! Ends (x, r) $ frame ! $
    suffices ! (ex 𝓤 Out) (id⊢ 𝓤 (ex 𝓤 Out)) $ show ! Out (tt, (tt, tt)) $
    use0 𝓛 (raw Says) (fact_i 𝓤 _ (emp 𝓤) (λ g e. subst (λ g. DecidesAs (SaysMatch g) p.now r)
    (ap (or_held has.0) (sym has.1 ∙ e)) answers)) $
    use0 𝓛 (raw Same) (fact_i 𝓤 _ (emp 𝓤) refl) $ join ! $ nothing ! $ nothing ! $ fjoin ! $ nothing ! $
    fjoin ! $
    join ! $ done !))))))))))
