-- A call that follows a handle keeps its contract, if the function that it calls keeps a contract that says
-- the same of a reference to what lies there.
use Rattle.std.proofs.Common.{List, [], ◌∷◌, ◌++◌, ℕ, ℤ}
use Rattle.std.specs.{Box.Ownership.box_owns, contracts.impls.GlobalAllocator.TheImpl.ghosts}
use base.{Fml.{GName, Lft, Share}, Fraction.full_share, Logic.{SProp, ent, sep}}
use contract.{Lifetimes.{Lfts, Shares, toks}, Monad.fact, Running.{Running, tables}}
use mir.{Syntax.{Callee, Mutability}, Val.{Val, vptr}}
use prog.{Model.Model, Wp.{Calls, Closed, WpFn}}
use seplogic.Ra.Ura.{Ura}
use types.Logic.{Logic, sem}
use denote.{RawPtr.{Ptr, block_ptr, rawptr_vals, rawptr_Tells}, Triple.Clauses.{Clauses, Ended, closing}}
use denote.{RattleType.{Denots, Valss, flat, owns}, Bor.Bor, Builtin.{i32, RawPtr}, Exit.yes, Laws.all_Typed}
use denote.{Ref.MutBor, Signature.plain, Triple.End.{Fins, outs, lasts_of}, Triple.Spec.triple_of}
use denote.{Triple.Statement.Triple, Triple.Table.{entered, framed}}
use Rattle.wax_c.proofs.Arguments.{Exits, Params, Rows, count, kept, lawfuls, spelling, stored, tells, values}
use Rattle.wax_c.proofs.{Lending.{lends, Asks, Leaves, Ends, Loan, Mode}, Exports.{Z, ended, spelled, told}}
use Rattle.wax_c.proofs.{Held.Held, Shapes.{Shape, code}}
use Rattle.std.proofs.alloc.Global.TheLaws as heap_laws

-- T: what lies there.  Says: the clause, by its value
module _ (S : Shape) (T : Held)
    (Says : (κs : Lfts (count S.args)) → T.Value → Denots (Rows S.args κs) → Exits S.args κs → ℤ
    → Type 0) where
  open S use {args as xs}
  open T use {R, Value, lies}

  abbrev exported : Ended
  exported = ended (count xs) (plain (λ _. Z) ∷ plain (λ _. RawPtr) ∷ Params xs) (yes, (yes, kept xs)) i32

  module _ {M : Type 1} {𝓤 : Ura M} (𝓛 : Logic 𝓤) where
    abbrev at_handle : Z.Denot → Ptr → Value → SProp 𝓤
    at_handle x p g = sem 𝓛 (box_owns (ghosts.dealloc_token x) R p (lies g))

    abbrev promised : Clauses 𝓤 exported
    promised κs a = record {
      ghost = Value;
      requires = at_handle a.0 a.1.0;
      ensures = λ g r e. sep 𝓤 (at_handle a.0 a.1.0 g) (fact 𝓤 (Says κs g a.1.1 e.1.1 r));
    }

    module _ (I : (h : R.Denot) → Mode 𝓛 R h) (κs : Lfts (count xs)) (qs : Shares (count xs)) (x : Z.Denot)
        (t : Denots (Rows xs κs)) (g : Value) where
      abbrev pub loan : Loan 𝓛 R
      loan = record {
        h = lies g;
        mode = I (lies g);
        tok = ghosts.dealloc_token x;
        toks = toks 𝓛 (count xs) κs qs;
        zed = Z.own_val x (told x);
        rest = owns (Rows xs κs) t (stored xs κs t);
        W = Fins κs (Params xs) (kept xs) t;
        last = lasts_of κs (Params xs) (kept xs) t;
        Answer = λ r ws. Says κs g t (outs κs (Params xs) (kept xs) t ws) r;
      }

    -- what f does with a reference to what lies there
    abbrev pub Serves : ((h : R.Denot) → Mode 𝓛 R h) → Calls 𝓤 𝓛.H → Callee → Type 1
    Serves I C f = (κs : Lfts (count xs)) (qs : Shares (count xs)) (x : Z.Denot) (t : Denots (Rows xs κs))
        (g : Value) (b o α : ℕ) (γ : GName) → let A = loan I κs qs x t g in
        ent 𝓤 (Asks 𝓛 R A b o α γ) (C f (heap_laws.the_told.val x ∷ vptr b o ∷ values xs κs t)
        (Leaves 𝓛 R A b o α γ))

  pub follows : {M : Type 1} (𝓤 : Ura M) (𝓛 : Logic 𝓤) (𝓜 : Model 𝓤 𝓛.H) (𝓡 : Running 𝓤 𝓛.H 𝓜)
      (I : (h : R.Denot) → Mode 𝓛 R h) {k f : Callee} (μ : Mutability) → let 𝓣 = tables 𝓤 𝓛.H 𝓜 𝓡 𝓡.env in
      Closed 𝓤 𝓛.H 𝓣.C 𝓣.Λ k (code f R μ xs) → Serves 𝓛 I 𝓣.C f
      → Triple 𝓤 (𝓣.C k) (triple_of 𝓛 exported.signature (closing 𝓛 exported (promised 𝓛)))
  follows {M} 𝓤 𝓛 𝓜 𝓡 I {k} {f} μ closed serves =
      let 𝓣 = tables 𝓤 𝓛.H 𝓜 𝓡 𝓡.env in let e = code f R μ xs in
      let C = triple_of 𝓛 exported.signature (closing 𝓛 exported (promised 𝓛)) in
      entered 𝓤 𝓛.H C 𝓣.C 𝓣.Λ k e closed (λ y.
      let κs = y.0.0 in let qs = y.0.1 in let a = y.0.3 in let x = a.0 in let t = a.1.1 in let g = y.1 in
      let z = heap_laws.the_told.val x in let vs = values xs κs t in let A = loan 𝓛 I κs qs x t g in
      let at : Ptr → C.Ghost = λ p. ((κs, qs, y.0.2, (x, (p, t)), y.0.4), g) in
      spelled 𝓛 exported.signature κs qs (told, (rawptr_vals, spelling xs κs))
      (heap_laws.the_told.tells, (rawptr_Tells, tells (count xs) κs xs 0 (λ κs. κs))) a
      (at_handle 𝓛 x a.1.0 g) (λ us. WpFn 𝓤 𝓛.H 𝓣.C 𝓣.Λ e (us.0 ++ (us.1.0 ++ flat (Rows xs κs) us.1.1))
      (C.post y)) y.0.4 (λ are. lends 𝓛 R A 𝓣.C (framed 𝓤 𝓛.H 𝓜 𝓣) f
      (λ b o. z ∷ vptr b o ∷ vs) (RawPtr.own_val a.1.0 (rawptr_vals a.1.0))
      (λ p. WpFn 𝓤 𝓛.H 𝓣.C 𝓣.Λ e (z ∷ (rawptr_vals p ++ vs)) (C.post (at p))) (λ b o.
      (S.forwards M 𝓤 𝓛 𝓣.C 𝓣.Λ (framed 𝓤 𝓛.H 𝓜 𝓣) f R μ A.toks (Ends 𝓛 R A (block_ptr b o)) κs t
      (all_Typed 𝓛 (Rows xs κs) (lawfuls (count xs) κs 𝓛 xs 0 (λ κs. κs)) t (stored xs κs t) are.1.1) z b o
      ((heap_laws.the_row_laws.lawful 𝓛).typed x _ are.0).0).prf) (serves κs qs x t g) a.1.0))

-- the references that a callee gets
module _ (T : Held) (b o : ℕ) where
  abbrev pub mut_at : GName → T.Value → MutBor T.R.Denot
  mut_at γ g = record { ref_ptr = (b, o); ghost_name = γ; now = T.lies g }

  abbrev pub shr_at : T.Value → Bor T.R.Denot
  shr_at g = record { ref_ptr = (b, o); now = T.lies g }

-- what it is called with
module _ (S : Shape) where
  open S use {args as xs}

  abbrev pub passed : {X : Type 0} (κs : Lfts (count xs)) → Shares (count xs) → Z.Denot
      → (t : Denots (Rows xs κs)) → X → ℕ → ℕ → ℕ
      → ((Lft × Lfts (count xs)) × (Share × Shares (count xs)) × Unit {0}
      × (Z.Denot × (X × Denots (Rows xs κs))) × (List Val × (List Val × Valss (Rows xs κs)))) × Unit {0}
  passed κs qs x t ref b o α =
      (((α ∷ [], κs), (full_share, qs), tt, (x, (ref, t)), (told x, (vptr b o ∷ [], stored xs κs t))), tt)
