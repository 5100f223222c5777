-- Calls that follow a handle, with a number beside it.
use Rattle.std.proofs.Common.{List, [], ◌∷◌, ◌++◌, ◌+◌, refl, ℕ, ℤ, w32, w64}
use Rattle.std.specs.{Box.Ownership.box_owns, contracts.impls.GlobalAllocator.TheImpl.ghosts}
use Rattle.wax_c.proofs.Arguments.{Argument, Exits, Params, Rows, count, kept, lawfuls, list_out, out}
use Rattle.wax_c.proofs.Arguments.{spelling, stored, tells, values}
use Rattle.wax_c.proofs.Exports.{Gives, Z, ended, function, spelled, told}
use Rattle.wax_c.proofs.Lending.{lends, Asks, Leaves, Ends, Loan, Mode}
use Rattle.wax_c.proofs.Shapes.{again, again_types, answer, answered, lent, lent_slice, more, on, params}
use Rattle.wax_c.proofs.{Shapes.passing, Held.Held}
use base.{Fml.{GName, Lft, Share, ftrue, fsep}, Fraction.full_share, Logic.{SProp, ent, sep}}
use contract.{Lifetimes.{Lfts, Shares, toks}, Monad.fact, Running.{Running, tables}}
use lib.Dec.{T as Holds}
use mir.Syntax.{Callee, Fn, Mutability, ty_int, ty_ptr, ty_ref, place, assign, rv_opd, seq, erased}
use mir.Val.{Val, vint, vptr, has_ty, WT}
use prog.{Model.Model, Wp.{Calls, Closed, Loops, WpFn}}
use seplogic.Ra.Ura.{Ura}
use sound.WpLaws.{FmC}
use types.ByLocal.{alloc_all, pass_all, free_all, look_at, get, sets, lands_as}
use types.{Kit.{Sq, raw, later, ◌$◌, !, prop, await}, Run.{calls, enter, no_more, of_opd, returns}}
use types.Logic.{Logic, sem}
use denote.RattleType.{RattleType, Denots, Valss, flat, mirs, owns}
use denote.{RawPtr.{Ptr, block_ptr, rawptr_vals, rawptr_Tells}, Triple.Clauses.{Clauses, Ended, closing}}
use denote.{Builtin.{i32, usize, RawPtr}, Exit.yes, Laws.{all_Typed, Typed}, Memory.pointee, Param.layout}
use denote.{Plain.{uint_Lawful, uint_Tells}, Signature.plain, Triple.End.{Fins, outs, lasts_of}}
use denote.{Triple.Spec.triple_of, Triple.Statement.Triple, Triple.Table.{entered, framed}}
use Rattle.std.proofs.alloc.Global.TheLaws as heap_laws

-- the code: the number follows the pointer
abbrev pub code : Callee → RattleType → Mutability → List Argument → Fn
code f R μ xs = let h = count xs + 4 in
    function (count xs) (count xs + 3) (ty_int w32 ∷ layout Z ∷ ty_ptr ∷ ty_int w64
    ∷ params 0 xs (ty_ptr ∷ ty_ref erased μ (pointee R.written) ∷ again_types xs))
    (seq (assign (place h []) (rv_opd (on 2))) (again h (h + 1) (layout R)
    (passing f xs 4 (h + 2) (on 1 ∷ on (h + 1) ∷ on 3 ∷ []))))

-- the code does what f does at the same values
abbrev pub Forwards : List Argument → Type 2
Forwards xs = (M : Type 1) (𝓤 : Ura M) (𝓛 : Logic 𝓤) (C : Calls 𝓤 𝓛.H) (Λ : Loops 𝓤 𝓛.H) → FmC 𝓤 𝓛.H 𝓛.laws C
    → (f : Callee) (R : RattleType) (μ : Mutability) (P : SProp 𝓤) (Y : ℤ → SProp 𝓤)
    (κs : Lfts (count xs)) (t : Denots (Rows xs κs)) → Typed (mirs (Rows xs κs)) (values xs κs t)
    → (z : Val) (b o n : ℕ) → let u = vint w64 n in
    Holds (has_ty (layout Z) z) × WT z → Holds (has_ty (ty_int w64) u) × WT u
    → let vs = z ∷ vptr b o ∷ u ∷ values xs κs t in
    Sq 𝓛 (later (raw (C f vs (Gives 𝓛 i32 P Y))) ∷ [])
    (prop (WpFn 𝓤 𝓛.H C Λ (code f R μ xs) vs (Gives 𝓛 i32 P Y)))

pub on_collecting : (S : RattleType) → Forwards (list_out S ∷ out usize ∷ [])
on_collecting S M 𝓤 𝓛 C Λ fm f R μ P Y κs t fits z b o n tz tn =
    enter ! C Λ _ _ _ $ alloc_all ! (λ l. pass_all ! refl (tz, ((tt, tt), (tn, fits))) $ await ! tt $
    sets ! (of_opd ! (get ! refl)) refl (tt, tt) $ lent ! refl refl (tt, tt) $
    lent_slice ! refl refl refl (tt, tt) refl refl refl fits.0 $ lent ! refl refl (tt, tt) $
    calls ! fm (answer 𝓛 P Y)
    (more ! refl (more ! refl (more ! refl (more ! refl (more ! refl (no_more !)))))) (λ v.
    answered 𝓛 P Y v (λ r n s. lands_as ! refl refl n $ returns ! (look_at ! 0 refl) $ free_all ! refl $ s)))

-- What such calls take, and that the code of such a call does what the other function does.
pub record Shape : Type 2 where
  pub args : List Argument
  pub forwards : Forwards args

-- a number, a list that is written, and the number of its elements
abbrev pub collecting : RattleType → Shape
collecting S = record { args = list_out S ∷ out usize ∷ []; forwards = on_collecting S }

-- T: what lies there.  Says: the clause, by its value and the number
module _ (S : Shape) (T : Held) (Says : (κs : Lfts (count S.args)) → T.Value → ℕ → Denots (Rows S.args κs)
    → Exits S.args κs → ℤ → Type 0) where
  open S use {args as xs}
  open T use {R, Value, lies}

  abbrev exported : Ended
  exported = ended (count xs) (plain (λ _. Z) ∷ plain (λ _. RawPtr) ∷ plain (λ _. usize) ∷ Params xs)
      (yes, (yes, (yes, kept xs))) i32

  module _ {M : Type 1} {𝓤 : Ura M} (𝓛 : Logic 𝓤) where
    abbrev at_handle : Z.Denot → Ptr → Value → SProp 𝓤
    at_handle x p g = sem 𝓛 (box_owns (ghosts.dealloc_token x) R p (lies g))

    abbrev promised : Clauses 𝓤 exported
    promised κs a = record {
      ghost = Value;
      requires = at_handle a.0 a.1.0;
      ensures = λ g r e. sep 𝓤 (at_handle a.0 a.1.0 g) (fact 𝓤 (Says κs g a.1.1.0 a.1.1.1 e.1.1.1 r));
    }

    module _ (I : (h : R.Denot) → Mode 𝓛 R h) (κs : Lfts (count xs)) (qs : Shares (count xs)) (x : Z.Denot)
        (n : ℕ) (t : Denots (Rows xs κs)) (g : Value) where
      abbrev pub loan : Loan 𝓛 R
      loan = record {
        h = lies g;
        mode = I (lies g);
        tok = ghosts.dealloc_token x;
        toks = toks 𝓛 (count xs) κs qs;
        zed = Z.own_val x (told x);
        rest = fsep (usize.own_val n (vint w64 n ∷ [])) (owns (Rows xs κs) t (stored xs κs t));
        W = Unit {0} × Fins κs (Params xs) (kept xs) t;
        last = λ ws. fsep ftrue (lasts_of κs (Params xs) (kept xs) t ws.1);
        Answer = λ r ws. Says κs g n t (outs κs (Params xs) (kept xs) t ws.1) r;
      }

    -- what f does with a reference to what lies there
    abbrev pub Serves : ((h : R.Denot) → Mode 𝓛 R h) → Calls 𝓤 𝓛.H → Callee → Type 1
    Serves I C f = (κs : Lfts (count xs)) (qs : Shares (count xs)) (x : Z.Denot) (n : ℕ)
        (t : Denots (Rows xs κs)) (g : Value) (b o α : ℕ) (γ : GName) → let A = loan I κs qs x n t g in
        ent 𝓤 (Asks 𝓛 R A b o α γ)
        (C f (heap_laws.the_told.val x ∷ vptr b o ∷ vint w64 n ∷ values xs κs t) (Leaves 𝓛 R A b o α γ))

  pub follows : {M : Type 1} (𝓤 : Ura M) (𝓛 : Logic 𝓤) (𝓜 : Model 𝓤 𝓛.H) (𝓡 : Running 𝓤 𝓛.H 𝓜)
      (I : (h : R.Denot) → Mode 𝓛 R h) {k f : Callee} (μ : Mutability) → let 𝓣 = tables 𝓤 𝓛.H 𝓜 𝓡 𝓡.env in
      Closed 𝓤 𝓛.H 𝓣.C 𝓣.Λ k (code f R μ xs) → Serves 𝓛 I 𝓣.C f
      → Triple 𝓤 (𝓣.C k) (triple_of 𝓛 exported.signature (closing 𝓛 exported (promised 𝓛)))
  follows {M} 𝓤 𝓛 𝓜 𝓡 I {k} {f} μ closed serves =
      let 𝓣 = tables 𝓤 𝓛.H 𝓜 𝓡 𝓡.env in let e = code f R μ xs in
      let C = triple_of 𝓛 exported.signature (closing 𝓛 exported (promised 𝓛)) in
      entered 𝓤 𝓛.H C 𝓣.C 𝓣.Λ k e closed (λ y.
      let κs = y.0.0 in let qs = y.0.1 in let a = y.0.3 in let x = a.0 in let n = a.1.1.0 in
      let t = a.1.1.1 in let g = y.1 in
      let z = heap_laws.the_told.val x in let vs = values xs κs t in let A = loan 𝓛 I κs qs x n t g in
      let at : Ptr → C.Ghost = λ p. ((κs, qs, y.0.2, (x, (p, (n, t))), y.0.4), g) in
      spelled 𝓛 exported.signature κs qs (told, (rawptr_vals, ((λ m. vint w64 m ∷ []), spelling xs κs)))
      (heap_laws.the_told.tells, (rawptr_Tells, (uint_Tells w64, tells (count xs) κs xs 0 (λ κs. κs)))) a
      (at_handle 𝓛 x a.1.0 g)
      (λ us. WpFn 𝓤 𝓛.H 𝓣.C 𝓣.Λ e (us.0 ++ (us.1.0 ++ (us.1.1.0 ++ flat (Rows xs κs) us.1.1.1)))
      (C.post y)) y.0.4 (λ are. lends 𝓛 R A 𝓣.C (framed 𝓤 𝓛.H 𝓜 𝓣) f
      (λ b o. z ∷ vptr b o ∷ vint w64 n ∷ vs) (RawPtr.own_val a.1.0 (rawptr_vals a.1.0))
      (λ p. WpFn 𝓤 𝓛.H 𝓣.C 𝓣.Λ e (z ∷ (rawptr_vals p ++ (vint w64 n ∷ vs))) (C.post (at p))) (λ b o.
      (S.forwards M 𝓤 𝓛 𝓣.C 𝓣.Λ (framed 𝓤 𝓛.H 𝓜 𝓣) f R μ A.toks (Ends 𝓛 R A (block_ptr b o)) κs t
      (all_Typed 𝓛 (Rows xs κs) (lawfuls (count xs) κs 𝓛 xs 0 (λ κs. κs)) t (stored xs κs t) are.1.1.1)
      z b o n ((heap_laws.the_row_laws.lawful 𝓛).typed x _ are.0).0
      ((uint_Lawful 𝓛 w64).typed n _ are.1.1.0).0).prf) (serves κs qs x n t g) a.1.0))

-- what the other function is called with
module _ (S : Shape) where
  open S use {args as xs}

  abbrev pub passed : {X : Type 0} (κs : Lfts (count xs)) → Shares (count xs) → Z.Denot → ℕ
      → (t : Denots (Rows xs κs)) → X → ℕ → ℕ → ℕ
      → ((Lft × Lfts (count xs)) × (Share × Shares (count xs)) × Unit {0}
      × (Z.Denot × (X × (ℕ × Denots (Rows xs κs))))
      × (List Val × (List Val × (List Val × Valss (Rows xs κs))))) × Unit {0}
  passed κs qs x n t ref b o α = (
    (
      (α ∷ [], κs),
      (full_share, qs),
      tt,
      (x, (ref, (n, t))),
      (told x, (vptr b o ∷ [], (vint w64 n ∷ [], stored xs κs t))),
    ),
    tt,
  )
