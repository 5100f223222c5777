-- Calls that follow two handles, with a number beside them.
use Rattle.std.proofs.Common.{List, [], ◌∷◌, ◌++◌, ◌+◌, refl, ℕ, ℤ, w32, w64}
use Rattle.std.specs.{Box.Ownership.box_owns, contracts.impls.GlobalAllocator.TheImpl.ghosts}
use Rattle.wax_c.proofs.Arguments.{Argument, Exits, Params, Rows, count, kept, lawfuls, list_out, out}
use Rattle.wax_c.proofs.Arguments.{spelling, stored, tells, values}
use Rattle.wax_c.proofs.Exports.{Gives, Returned, Z, ended, function, spelled, told}
use Rattle.wax_c.proofs.Shapes.{again, again_types, answer, answered, lent, lent_slice, more, on, params}
use Rattle.wax_c.proofs.{Shapes.passing, Held.Held, Lending.{Mode, alive}}
use base.{Fml.{Fml, GName, Lft, Share, ftrue, fsep, flft}, Fraction.full_share}
use base.Logic.{SProp, ent, ex, sep, emp, never, fst∗}
use contract.{Lifetimes.{Lfts, Shares, toks}, Monad.fact, Running.{Running, tables}}
use lib.Dec.{T as Holds}
use mir.Syntax.{Callee, Fn, Mutability, Ty, ty_int, ty_ptr, ty_ref, place, assign, rv_opd, seq, erased}
use mir.{Raw.raw as bare, Val.{Val, vint, vptr, has_ty, WT}}
use prog.{Model.Model, Wp.{Calls, Closed, Loops, WpFn}}
use seplogic.Ra.Ura.{Ura}
use sound.WpLaws.{FmC}
use types.ByLocal.{alloc_all, pass_all, free_all, look_at, get, sets, lands_as}
use types.Kit.{Sq, ‵, raw, suffices, ◌⊛◌, some, later, ◌$◌, ◌∵◌, !, qed, by, move, drop, use1, use2, use3}
use types.Kit.{regoal, prop, split, join, pick, fsplit, fjoin, frame, await, updating, now as at_once, show}
use types.{Kit.done, Run.{calls, enter, no_more, of_opd, returns}, Logic.{Logic, sem}}
use types.Tokens.{lft_new, lft_end}
use denote.RattleType.{RattleType, Denots, Valss, flat, mirs, owns}
use denote.RawPtr.{Ptr, block_ptr, null_ptr, rawptr_vals, rawptr_Tells, in_a_block}
use denote.{Triple.Clauses.{Clauses, Ended, closing}, Builtin.{i32, u8, usize, RawPtr}, Exit.yes}
use denote.{Laws.{all_Typed, Typed}, Memory.{lone, part_at, pointee}, Param.layout}
use denote.{Plain.{uint_Lawful, uint_Tells}, Signature.plain, Steps.{nothing, heard}}
use denote.{Triple.End.{Fins, outs, lasts_of}, Triple.Spec.triple_of, Triple.Statement.Triple}
use denote.{Triple.Table.{entered, framed}, Triple.Walked.says}
use Rattle.std.proofs.alloc.Global.TheLaws as heap_laws

-- Two loans at once, as `Loan` of one.
pub record Loans {M : Type 1} {𝓤 : Ura M} (𝓛 : Logic 𝓤) (R R' : RattleType) : Type 2 where
  pub h : R.Denot
  pub h' : R'.Denot
  pub mode : Mode 𝓛 R h
  pub mode' : Mode 𝓛 R' h'
  pub tok : Ty → Ptr → Fml
  pub toks : SProp 𝓤
  pub zed : Fml
  pub rest : Fml
  pub W : Type 0
  pub last : W → Fml
  pub Answer : ℤ → W → Type 0

module _ {M : Type 1} {𝓤 : Ura M} (𝓛 : Logic 𝓤) (R R' : RattleType) (A : Loans 𝓛 R R') where
  open A use {h, h', mode, mode', tok, toks, zed, rest, W, last, Answer}

  abbrev Values : Type 0
  Values = Unit {0} × (mode.Last × (mode'.Last × W))

  abbrev both_alive : ℕ → ℕ → SProp 𝓤
  both_alive α α' = sep 𝓤 (alive 𝓛 α) (sep 𝓤 (alive 𝓛 α') toks)

  module _ (b o α : ℕ) (γ : GName) (b' o' α' : ℕ) (γ' : GName) where
    -- what the arguments own
    abbrev pub Taken : Fml
    Taken = fsep zed (fsep (mode.Ref b o α γ) (fsep (mode'.Ref b' o' α' γ') rest))

    abbrev pub Asks : SProp 𝓤
    Asks = sep 𝓤 (sep 𝓤 (both_alive α α') (sem 𝓛 Taken)) (emp 𝓤)

    abbrev All : Values → Fml
    All ws = fsep ftrue (fsep (mode.last b o α γ ws.1.0) (fsep (mode'.last b' o' α' γ' ws.1.1.0)
        (last ws.1.1.1)))

    abbrev Told : ℤ → Values → Type 0
    Told r ws = mode.Also (mode'.Also (Answer r ws.1.1.1) ws.1.1.0) ws.1.0

    -- what is said of the number, and of the last values
    abbrev pub Said : ℤ → SProp 𝓤
    Said r = ex 𝓤 (λ (ws : Values). sep 𝓤 (sem 𝓛 (All ws)) (fact 𝓤 (Told r ws)))

    abbrev pub Leaves : Val → SProp 𝓤
    Leaves = Gives 𝓛 i32 (both_alive α α') Said

  abbrev Left : Ptr → Ptr → ℤ → Unit {0} × (Unit {0} × (Unit {0} × W)) → SProp 𝓤
  Left p p' r ws = sep 𝓤 (sem 𝓛 (fsep ftrue (fsep ftrue (fsep ftrue (last ws.1.1.1)))))
      (sep 𝓤 (sem 𝓛 (box_owns tok R p h)) (sep 𝓤 (sem 𝓛 (box_owns tok R' p' h'))
      (fact 𝓤 (Answer r ws.1.1.1))))

  abbrev pub Ends : Ptr → Ptr → ℤ → SProp 𝓤
  Ends p p' r = ex 𝓤 (Left p p' r)

  abbrev may_free : RattleType → ℕ → ℕ → Fml
  may_free S b o = tok (bare (lone S.mir)) (block_ptr b o)

  takes_back : (b o α : ℕ) (γ : GName) (b' o' α' : ℕ) (γ' : GName) (v : Val)
      → ent 𝓤 (sep 𝓤 (Leaves b o α γ b' o' α' γ' v) (sep 𝓤 (sem 𝓛 (mode'.Kept b' o' α' γ'))
      (sep 𝓤 (sem 𝓛 (mode.Kept b o α γ)) (sep 𝓤 (sem 𝓛 (may_free R b o)) (sem 𝓛 (may_free R' b' o'))))))
      (Gives 𝓛 i32 toks (Ends (block_ptr b o) (block_ptr b' o')) v)
  takes_back b o α γ b' o' α' γ' v =
      let p = block_ptr b o in let p' = block_ptr b' o' in
      qed 𝓛 (later (some (λ (r : ℤ).
      ((‵ (flft (α ∷ []) full_share) ⊛ (‵ (flft (α' ∷ []) full_share) ⊛ raw toks))
      ⊛ ‵ (i32.own_val r (v ∷ []))) ⊛ some (λ (ws : Values). ‵ (All b o α γ b' o' α' γ' ws)
      ⊛ raw (fact 𝓤 (Told b o α γ b' o' α' γ' r ws))))) ∷ ‵ (mode'.Kept b' o' α' γ')
      ∷ ‵ (mode.Kept b o α γ) ∷ ‵ (may_free R b o) ∷ ‵ (may_free R' b' o') ∷ []) ∵
      updating ! $ await ! tt $
      pick ! (λ r. split ! $ move ! (1 ∷ []) $ pick ! (λ ws. split ! $ move ! (1 ∷ []) $
      heard ! _ (λ told. let A : Type 0 = Answer r ws.1.1.1 in let A' : Type 0 = mode'.Also A ws.1.1.0 in
      fsplit ! $ drop ! $ fsplit ! $ move ! (1 ∷ []) $ fsplit ! $
      -- [the second last value; the others'; the first; the tokens and the answer; what is kept; the rights
      -- to free]
      move ! (3 ∷ []) $ split ! $ split ! $ lft_end ! tt $ move ! (0 ∷ 7 ∷ 5 ∷ []) $
      use3 𝓛 (later (‵ (part_at R full_share h b o))) (mode.back b o α γ A' ws.1.0 told) $ await ! tt $
      move ! (1 ∷ []) $ split ! $ lft_end ! tt $ move ! (0 ∷ 6 ∷ 4 ∷ []) $
      use3 𝓛 (later (‵ (part_at R' full_share h' b' o')))
      (mode'.back b' o' α' γ' A ws.1.1.0 (mode.only A' ws.1.0 told)) $ await ! tt $ at_once ! $
      -- [what lies there, second and first; the tokens; the answer; the others' last values; the rights to
      -- free]
      show ! (Returned 𝓛 i32 toks (Ends p p') v) r $ move ! (1 ∷ 3 ∷ []) $ join ! $ frame ! $
      show ! (Left p p' r) (tt, (tt, (tt, ws.1.1.1))) $ move ! (2 ∷ []) $ nothing ! $ fjoin ! $ nothing ! $
      fjoin ! $ nothing ! $ fjoin ! $ frame ! $ move ! (1 ∷ 2 ∷ []) $ fjoin ! $ frame ! $
      says ! (mode'.only A ws.1.1.0 (mode.only A' ws.1.0 told)) $ fjoin ! $ done !)))

  pub lends : (C : Calls 𝓤 𝓛.H) → FmC 𝓤 𝓛.H 𝓛.laws C
      → (f : Callee) (vs : ℕ → ℕ → ℕ → ℕ → List Val) (ptr ptr' : Fml)
      (Run : Ptr → Ptr → SProp 𝓤) → ((b o b' o' : ℕ) → let p = block_ptr b o in let p' = block_ptr b' o' in
      ent 𝓤 (𝓛.H.⇛ (C f (vs b o b' o') (Gives 𝓛 i32 toks (Ends p p')))) (Run p p'))
      → ((b o α : ℕ) (γ : GName) (b' o' α' : ℕ) (γ' : GName)
      → ent 𝓤 (Asks b o α γ b' o' α' γ') (C f (vs b o b' o') (Leaves b o α γ b' o' α' γ')))
      → (p p' : Ptr) → ent 𝓤 (sep 𝓤 (sep 𝓤 toks (sem 𝓛 (fsep zed (fsep ptr (fsep ptr' rest)))))
      (sep 𝓤 (sem 𝓛 (box_owns tok R p h)) (sem 𝓛 (box_owns tok R' p' h')))) (Run p p')
  lends C fm f vs ptr ptr' Run forwards met p p' =
      qed 𝓛 ((raw toks ⊛ ‵ (fsep zed (fsep ptr (fsep ptr' rest))))
      ∷ (‵ (box_owns tok R p h) ⊛ ‵ (box_owns tok R' p' h')) ∷ []) ∵
      split ! $ move ! (1 ∷ []) $ fsplit ! $ move ! (1 ∷ []) $ fsplit ! $ drop ! $ fsplit ! $ drop ! $
      move ! (3 ∷ []) $ split ! $
      in_a_block ! p (λ q. box_owns tok R q h) (fst∗ 𝓤 (never 𝓤) (sem 𝓛 (tok (bare (lone R.mir)) null_ptr)))
      (λ b o e. regoal ! (λ q. prop (Run q p')) e refl $ move ! (1 ∷ []) $
      in_a_block ! p' (λ q. box_owns tok R' q h')
      (fst∗ 𝓤 (never 𝓤) (sem 𝓛 (tok (bare (lone R'.mir)) null_ptr)))
      (λ b' o' e'. regoal ! (λ q. prop (Run (block_ptr b o) q)) e' refl $ suffices ! _ (forwards b o b' o') $
      updating ! $ fsplit ! $ move ! (2 ∷ []) $ fsplit ! $
      -- [what lies there and the right to free it, twice; the others; the allocator; the tokens]
      lft_new ! tt (λ α. move ! (1 ∷ 0 ∷ []) $ use2 𝓛 (later (some (λ (γ : GName). ‵ (mode.Ref b o α γ)
      ⊛ (‵ (mode.Kept b o α γ) ⊛ ‵ (flft (α ∷ []) full_share))))) (mode.lend b o α) $
      await ! tt $ pick ! (λ γ. split ! $ move ! (1 ∷ []) $ split ! $
      lft_new ! tt (λ α'. move ! (5 ∷ 0 ∷ []) $ use2 𝓛 (later (some (λ (γ' : GName). ‵ (mode'.Ref b' o' α' γ')
      ⊛ (‵ (mode'.Kept b' o' α' γ') ⊛ ‵ (flft (α' ∷ []) full_share))))) (mode'.lend b' o' α') $
      await ! tt $ pick ! (λ γ'. split ! $ move ! (1 ∷ []) $ split ! $
      -- [kept, token and reference, of the second and of the first; the rights to free; the others; the
      -- allocator; the tokens]
      move ! (2 ∷ 8 ∷ []) $ fjoin ! $ move ! (5 ∷ 0 ∷ []) $ fjoin ! $ move ! (7 ∷ 0 ∷ []) $ fjoin ! $
      move ! (2 ∷ 7 ∷ []) $ join ! $ move ! (4 ∷ 0 ∷ []) $ join ! $ join ! $ nothing ! $ move ! (1 ∷ 0 ∷ []) $
      join ! $ use1 𝓛 (raw (C f (vs b o b' o') (Leaves b o α γ b' o' α' γ'))) (met b o α γ b' o' α' γ') $
      at_once ! $ by ! (fm f (vs b o b' o') (Leaves b o α γ b' o' α' γ')
      (Gives 𝓛 i32 toks (Ends (block_ptr b o) (block_ptr b' o')))
      (sep 𝓤 (sem 𝓛 (mode'.Kept b' o' α' γ')) (sep 𝓤 (sem 𝓛 (mode.Kept b o α γ))
      (sep 𝓤 (sem 𝓛 (may_free R b o)) (sem 𝓛 (may_free R' b' o')))))
      (takes_back b o α γ b' o' α' γ'))))))))

-- the code: the second pointer, and the number, follow the first pointer
abbrev pub code : Callee → RattleType → Mutability → RattleType → Mutability → List Argument → Fn
code f R μ R' μ' xs = let h = count xs + 5 in
    function (count xs) (count xs + 4) (ty_int w32 ∷ layout Z ∷ ty_ptr ∷ ty_ptr ∷ ty_int w64
    ∷ params 0 xs (ty_ptr ∷ ty_ref erased μ (pointee R.written)
    ∷ ty_ptr ∷ ty_ref erased μ' (pointee R'.written) ∷ again_types xs))
    (seq (assign (place h []) (rv_opd (on 2))) (again h (h + 1) (layout R)
    (seq (assign (place (h + 2) []) (rv_opd (on 3))) (again (h + 2) (h + 3) (layout R')
    (passing f xs 5 (h + 4) (on 1 ∷ on (h + 1) ∷ on (h + 3) ∷ on 4 ∷ []))))))

-- the code does what f does at the same values
abbrev pub Forwards : List Argument → Type 2
Forwards xs = (M : Type 1) (𝓤 : Ura M) (𝓛 : Logic 𝓤) (C : Calls 𝓤 𝓛.H) (Λ : Loops 𝓤 𝓛.H) → FmC 𝓤 𝓛.H 𝓛.laws C
    → (f : Callee) (R : RattleType) (μ : Mutability) (R' : RattleType) (μ' : Mutability) (P : SProp 𝓤)
    (Y : ℤ → SProp 𝓤) (κs : Lfts (count xs)) (t : Denots (Rows xs κs))
    → Typed (mirs (Rows xs κs)) (values xs κs t)
    → (z : Val) (b o b' o' n : ℕ) → let u = vint w64 n in
    Holds (has_ty (layout Z) z) × WT z → Holds (has_ty (ty_int w64) u) × WT u
    → let vs = z ∷ vptr b o ∷ vptr b' o' ∷ u ∷ values xs κs t in
    Sq 𝓛 (later (raw (C f vs (Gives 𝓛 i32 P Y))) ∷ [])
    (prop (WpFn 𝓤 𝓛.H C Λ (code f R μ R' μ' xs) vs (Gives 𝓛 i32 P Y)))

pub on_writing : Forwards (list_out u8 ∷ out usize ∷ [])
on_writing M 𝓤 𝓛 C Λ fm f R μ R' μ' P Y κs t fits z b o b' o' n tz tn =
    enter ! C Λ _ _ _ $ alloc_all ! (λ l. pass_all ! refl (tz, ((tt, tt), ((tt, tt), (tn, fits)))) $
    await ! tt $ sets ! (of_opd ! (get ! refl)) refl (tt, tt) $ lent ! refl refl (tt, tt) $
    sets ! (of_opd ! (get ! refl)) refl (tt, tt) $ lent ! refl refl (tt, tt) $
    lent_slice ! refl refl refl (tt, tt) refl refl refl fits.0 $ lent ! refl refl (tt, tt) $
    calls ! fm (answer 𝓛 P Y)
    (more ! refl (more ! refl (more ! refl (more ! refl (more ! refl (more ! refl (no_more !))))))) (λ v.
    answered 𝓛 P Y v (λ r n s. lands_as ! refl refl n $ returns ! (look_at ! 0 refl) $ free_all ! refl $ s)))

-- What such calls take, and that the code of such a call does what the other function does.
pub record Shape : Type 2 where
  pub args : List Argument
  pub forwards : Forwards args

-- a number, a text that is written, and the number of its bytes
abbrev pub searching : Shape
searching = record { args = list_out u8 ∷ out usize ∷ []; forwards = on_writing }

-- T, T': what lies at the handles.  Says: the clause, by these values and the number
module _ (S : Shape) (T T' : Held) (Says : (κs : Lfts (count S.args)) → T.Value → T'.Value → ℕ
    → Denots (Rows S.args κs) → Exits S.args κs → ℤ → Type 0) where
  open S use {args as xs}

  abbrev pub exported : Ended
  exported = ended (count xs) (plain (λ _. Z) ∷ plain (λ _. RawPtr) ∷ plain (λ _. RawPtr) ∷ plain (λ _. usize)
      ∷ Params xs) (yes, (yes, (yes, (yes, kept xs)))) i32

  module _ {M : Type 1} {𝓤 : Ura M} (𝓛 : Logic 𝓤) where
    abbrev at_handle : (K : Held) → Z.Denot → Ptr → K.Value → SProp 𝓤
    at_handle K x p g = sem 𝓛 (box_owns (ghosts.dealloc_token x) K.R p (K.lies g))

    abbrev at_both : Z.Denot → Ptr → Ptr → T.Value × T'.Value → SProp 𝓤 → SProp 𝓤
    at_both x p p' g P = sep 𝓤 (at_handle T x p g.0) (sep 𝓤 (at_handle T' x p' g.1) P)

    abbrev pub promised : Clauses 𝓤 exported
    promised κs a = record {
      ghost = T.Value × T'.Value;
      requires = λ g. sep 𝓤 (at_handle T a.0 a.1.0 g.0) (at_handle T' a.0 a.1.1.0 g.1);
      ensures = λ g r e.
          at_both a.0 a.1.0 a.1.1.0 g (fact 𝓤 (Says κs g.0 g.1 a.1.1.1.0 a.1.1.1.1 e.1.1.1.1 r));
    }

    module _ (I : (h : T.R.Denot) → Mode 𝓛 T.R h) (I' : (h : T'.R.Denot) → Mode 𝓛 T'.R h) where
      abbrev pub loans : (κs : Lfts (count xs)) → Shares (count xs) → Z.Denot → ℕ → Denots (Rows xs κs)
          → T.Value × T'.Value → Loans 𝓛 T.R T'.R
      loans κs qs x n t g = record {
        h = T.lies g.0;
        h' = T'.lies g.1;
        mode = I (T.lies g.0);
        mode' = I' (T'.lies g.1);
        tok = ghosts.dealloc_token x;
        toks = toks 𝓛 (count xs) κs qs;
        zed = Z.own_val x (told x);
        rest = fsep (usize.own_val n (vint w64 n ∷ [])) (owns (Rows xs κs) t (stored xs κs t));
        W = Unit {0} × Fins κs (Params xs) (kept xs) t;
        last = λ ws. fsep ftrue (lasts_of κs (Params xs) (kept xs) t ws.1);
        Answer = λ r ws. Says κs g.0 g.1 n t (outs κs (Params xs) (kept xs) t ws.1) r;
      }

      -- what f does with references to what lies there
      abbrev pub Serves : Calls 𝓤 𝓛.H → Callee → Type 1
      Serves C f = (κs : Lfts (count xs)) (qs : Shares (count xs)) (x : Z.Denot) (n : ℕ)
          (t : Denots (Rows xs κs)) (g : T.Value × T'.Value) (b o α : ℕ) (γ : GName)
          (b' o' α' : ℕ) (γ' : GName)
          → let A = loans κs qs x n t g in
          ent 𝓤 (Asks 𝓛 T.R T'.R A b o α γ b' o' α' γ')
          (C f (heap_laws.the_told.val x ∷ vptr b o ∷ vptr b' o' ∷ vint w64 n ∷ values xs κs t)
          (Leaves 𝓛 T.R T'.R A b o α γ b' o' α' γ'))

  pub follows : {M : Type 1} (𝓤 : Ura M) (𝓛 : Logic 𝓤) (𝓜 : Model 𝓤 𝓛.H) (𝓡 : Running 𝓤 𝓛.H 𝓜)
      (I : (h : T.R.Denot) → Mode 𝓛 T.R h) (I' : (h : T'.R.Denot) → Mode 𝓛 T'.R h)
      {k f : Callee} (μ μ' : Mutability)
      → let 𝓣 = tables 𝓤 𝓛.H 𝓜 𝓡 𝓡.env in
      Closed 𝓤 𝓛.H 𝓣.C 𝓣.Λ k (code f T.R μ T'.R μ' xs) → Serves 𝓛 I I' 𝓣.C f
      → Triple 𝓤 (𝓣.C k) (triple_of 𝓛 exported.signature (closing 𝓛 exported (promised 𝓛)))
  follows {M} 𝓤 𝓛 𝓜 𝓡 I I' {k} {f} μ μ' closed serves =
      let 𝓣 = tables 𝓤 𝓛.H 𝓜 𝓡 𝓡.env in let e = code f T.R μ T'.R μ' xs in
      let C = triple_of 𝓛 exported.signature (closing 𝓛 exported (promised 𝓛)) in
      entered 𝓤 𝓛.H C 𝓣.C 𝓣.Λ k e closed (λ y.
      let κs = y.0.0 in let qs = y.0.1 in let a = y.0.3 in let x = a.0 in let n = a.1.1.1.0 in
      let t = a.1.1.1.1 in let g = y.1 in let z = heap_laws.the_told.val x in let vs = values xs κs t in
      let A = loans 𝓛 I I' κs qs x n t g in
      let at : Ptr → Ptr → C.Ghost = λ p p'. ((κs, qs, y.0.2, (x, (p, (p', (n, t)))), y.0.4), g) in
      spelled 𝓛 exported.signature κs qs
      (told, (rawptr_vals, (rawptr_vals, ((λ m. vint w64 m ∷ []), spelling xs κs)))) (
        heap_laws.the_told.tells,
        (
          rawptr_Tells,
          (
            rawptr_Tells,
            (
              uint_Tells w64,
              tells (count xs) κs xs 0
                  (λ κs. κs),
            ),
          ),
        ),
      ) a (((promised 𝓛) κs a).requires g) (λ us.
      WpFn 𝓤 𝓛.H 𝓣.C 𝓣.Λ e (us.0 ++ (us.1.0 ++ (us.1.1.0 ++ (us.1.1.1.0 ++ flat (Rows xs κs) us.1.1.1.1))))
      (C.post y)) y.0.4 (λ are. lends 𝓛 T.R T'.R A 𝓣.C (framed 𝓤 𝓛.H 𝓜 𝓣) f
      (λ b o b' o'. z ∷ vptr b o ∷ vptr b' o' ∷ vint w64 n ∷ vs) (RawPtr.own_val a.1.0 (rawptr_vals a.1.0))
      (RawPtr.own_val a.1.1.0 (rawptr_vals a.1.1.0)) (λ p p'.
      WpFn 𝓤 𝓛.H 𝓣.C 𝓣.Λ e (z ∷ (rawptr_vals p ++ (rawptr_vals p' ++ (vint w64 n ∷ vs)))) (C.post (at p p')))
      (λ b o b' o'. (S.forwards M 𝓤 𝓛 𝓣.C 𝓣.Λ (framed 𝓤 𝓛.H 𝓜 𝓣) f T.R μ T'.R μ' A.toks
      (Ends 𝓛 T.R T'.R A (block_ptr b o) (block_ptr b' o')) κs t
      (all_Typed 𝓛 (Rows xs κs) (lawfuls (count xs) κs 𝓛 xs 0 (λ κs. κs)) t (stored xs κs t) are.1.1.1.1)
      z b o b' o' n ((heap_laws.the_row_laws.lawful 𝓛).typed x _ are.0).0
      ((uint_Lawful 𝓛 w64).typed n _ are.1.1.1.0).0).prf) (serves κs qs x n t g) a.1.0 a.1.1.0))

-- what the other function is called with
module _ (S : Shape) where
  open S use {args as xs}

  abbrev pub passed : {X X' : Type 0} (κs : Lfts (count xs)) → Shares (count xs) → Z.Denot → ℕ
      → (t : Denots (Rows xs κs)) → X → ℕ → ℕ → ℕ → X' → ℕ → ℕ → ℕ
      → ((Lft × (Lft × Lfts (count xs))) × (Share × (Share × Shares (count xs))) × Unit {0}
      × (Z.Denot × (X × (X' × (ℕ × Denots (Rows xs κs)))))
      × (List Val × (List Val × (List Val × (List Val × Valss (Rows xs κs)))))) × Unit {0}
  passed κs qs x n t ref b o α ref' b' o' α' = (
    (
      (α ∷ [], (α' ∷ [], κs)),
      (full_share, (full_share, qs)),
      tt,
      (x, (ref, (ref', (n, t)))),
      (told x, (vptr b o ∷ [], (vptr b' o' ∷ [], (vint w64 n ∷ [], stored xs κs t)))),
    ),
    tt,
  )
