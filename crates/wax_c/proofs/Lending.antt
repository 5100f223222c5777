-- What lies at a handle is lent for the time of a call.
use Rattle.std.proofs.Common.{◌≡◌, List, [], ◌∷◌, refl, sym, subst, ℕ, ℤ}
use Rattle.std.specs.Box.Ownership.{box_owns}
use base.{Fml.{Fml, Lft, GName, ftrue, fsep, flft, fdead, flent, fres, fbor, Incl-refl}, Fraction.full_share}
use base.Logic.{SProp, ent, sep, ex, emp, never, fst∗}
use contract.{BorrowLft.{◌⊑◌, ⊑_static}, Monad.fact}
use mir.{Raw.raw as bare, Syntax.{named, Callee, Ty}, Val.{Val, vptr}}
use prog.Wp.{Calls}
use seplogic.Ra.Ura.{Ura}
use sound.WpLaws.{FmC}
use types.Kit.{‵, raw, suffices, ◌⊛◌, some, later, ◌$◌, ◌∵◌, !, qed, by, move, drop, use1, use2, use3}
use types.Kit.{rewrite, regoal, prop, split, join, pick, fsplit, fjoin, frame, await, updating}
use types.{Kit.{now as at_once, show, done}, Logic.{Logic, sem}, SemTy.Body}
use types.Tokens.{lft_new, lft_end, lent_back}
use denote.{Lend.{lends_ref, ref_back, lends_shr}, RawPtr.{Ptr, block_ptr, null_ptr, in_a_block}, Builtin.i32}
use denote.{Memory.{mem, part_at, lone}, Param.Laws.Laws, RattleType.RattleType, Ref.{MutRef, ShrRef}}
use denote.{Steps.{nothing, heard}, Triple.Walked.says}
use Rattle.wax_c.proofs.{Held.Held, Exports.{Gives, Returned}}

pub unbounded : (R : RattleType) → R.lives ≡ [] → (α : ℕ) → (α ∷ []) ⊑ R.lives
unbounded R e α = let P : Lft → Type 0 = λ l. (α ∷ []) ⊑ l in subst P (sym e) (⊑_static (α ∷ []))

module _ {M : Type 1} {𝓤 : Ura M} (𝓛 : Logic 𝓤) where
  -- the token of the lifetime α
  abbrev pub alive : ℕ → SProp 𝓤
  alive α = 𝓛.A.lft (α ∷ []) full_share

  module _ (R : RattleType) (h : R.Denot) where
    abbrev there : ℕ → ℕ → Fml
    there = part_at R full_share h

    -- the value there, h, becomes a reference for α, and something is kept
    abbrev Lends : (b o α : ℕ) → (GName → Fml) → (GName → Fml) → Type 1
    Lends b o α ref kept = ent 𝓤 (sep 𝓤 (sem 𝓛 (there b o)) (alive α))
        (𝓛.H.⇛ (ex 𝓤 (λ (γ : GName). sep 𝓤 (sem 𝓛 (ref γ)) (sep 𝓤 (sem 𝓛 (kept γ)) (alive α)))))

    -- once α has ended, it is h again
    abbrev Restores : (b o α : ℕ) → Fml → Fml → Type 1
    Restores b o α kept last =
        ent 𝓤 (sep 𝓤 (𝓛.A.dead (α ∷ [])) (sep 𝓤 (sem 𝓛 kept) (sem 𝓛 last))) (𝓛.H.⇛ (sem 𝓛 (there b o)))

    -- How h is lent: the reference, what is kept, what is said of the reference's last value, and the
    -- callee's clause, which may say beside A that this value is h.
    pub record Mode : Type 2 where
      pub Ref : ℕ → ℕ → ℕ → GName → Fml
      pub Kept : ℕ → ℕ → ℕ → GName → Fml
      pub Last : Type 0
      pub last : ℕ → ℕ → ℕ → GName → Last → Fml
      pub Also : Type 0 → Last → Type 0
      pub only : (A : Type 0) (w : Last) → Also A w → A
      pub lend : (b o α : ℕ) → Lends b o α (Ref b o α) (Kept b o α)
      pub back : (b o α : ℕ) (γ : GName) (A : Type 0) (w : Last) → Also A w
          → Restores b o α (Kept b o α γ) (last b o α γ w)

    module _ (b o α : ℕ) (γ : GName) where
      abbrev Mut : Fml
      Mut = (MutRef (named 0) (α ∷ []) R).own_val
          (record { ref_ptr = (b, o); ghost_name = γ; now = h }) (vptr b o ∷ [])

      abbrev Shr : Fml
      Shr = (ShrRef (named 0) (α ∷ []) R).own_val (record { ref_ptr = (b, o); now = h }) (vptr b o ∷ [])

      abbrev MutKept : Fml
      MutKept = flent (α ∷ []) (Body (mem R) b o γ)

      abbrev ShrKept : Fml
      ShrKept = flent (α ∷ []) (there b o)

      abbrev Fin : R.Denot → Fml
      Fin w = fsep (fres γ (R.coded.code w)) (fbor (α ∷ []) (Body (mem R) b o γ))

    pub mut_lend : (b o α : ℕ) → Lends b o α (Mut b o α) (MutKept b o α)
    mut_lend b o α = qed 𝓛 (‵ (there b o) ∷ ‵ (flft (α ∷ []) full_share) ∷ []) ∵ updating ! $
        use1 𝓛 (later (some (λ (γ : GName). ‵ (Mut b o α γ) ⊛ ‵ (MutKept b o α γ))))
        (lends_ref 𝓛 R (named 0) (α ∷ []) h b o) $ await ! tt $ pick ! (λ γ. split ! $ at_once ! $
        show ! (λ γ. sep 𝓤 (sem 𝓛 (Mut b o α γ)) (sep 𝓤 (sem 𝓛 (MutKept b o α γ)) (alive α))) γ $ done !)

    pub mut_back : (b o α : ℕ) (γ : GName) (w : R.Denot) → w ≡ h
        → Restores b o α (MutKept b o α γ) (Fin b o α γ w)
    mut_back b o α γ w e = qed 𝓛 (‵ (fdead (α ∷ [])) ∷ ‵ (MutKept b o α γ) ∷ ‵ (Fin b o α γ w) ∷ []) ∵
        updating ! $ move ! (2 ∷ []) $ fsplit ! $
        rewrite ! 0 (λ (u : R.Denot). ‵ (fres γ (R.coded.code u))) e refl $ move ! (2 ∷ 3 ∷ 0 ∷ []) $
        use3 𝓛 (later (‵ (there b o))) (ref_back 𝓛 R (α ∷ []) γ h b o) $
        await ! tt $ at_once ! $ move ! (1 ∷ []) $ drop ! $ done !

    module _ (L : Laws R) (free : R.lives ≡ []) where
      pub shr_lend : (b o α : ℕ) → Lends b o α (Shr b o α) (ShrKept b o α)
      shr_lend b o α = qed 𝓛 (‵ (there b o) ∷ ‵ (flft (α ∷ []) full_share) ∷ []) ∵ updating ! $
          use2 𝓛 (later ((‵ (Shr b o α 0) ⊛ ‵ (ShrKept b o α 0)) ⊛ ‵ (flft (α ∷ []) full_share)))
          (lends_shr 𝓛 R (named 0) (α ∷ []) full_share h b o R.lives (L.shares 𝓛 h)
          ((α ∷ [], full_share) ∷ []) (unbounded R free α) (Incl-refl (α ∷ []))) $ await ! tt $ split ! $
          split ! $ at_once ! $
          show ! (λ γ. sep 𝓤 (sem 𝓛 (Shr b o α γ)) (sep 𝓤 (sem 𝓛 (ShrKept b o α γ)) (alive α))) 0 $ done !

    pub shr_back : (b o α : ℕ) (γ : GName) → Restores b o α (ShrKept b o α γ) ftrue
    shr_back b o α γ = qed 𝓛 (‵ (fdead (α ∷ [])) ∷ ‵ (ShrKept b o α γ) ∷ ‵ ftrue ∷ []) ∵ updating ! $
        lent_back ! tt $ at_once ! $ move ! (1 ∷ []) $ drop ! $ done !

  -- by `&mut`: the callee leaves it as it was
  abbrev pub by_mut : (T : Held) (h : T.R.Denot) → Mode T.R h
  by_mut T h = record {
    Ref = Mut T.R h;
    Kept = MutKept T.R h;
    Last = T.R.Denot;
    last = Fin T.R h;
    Also = λ A w. A × (w ≡ h);
    only = λ A w p. p.0;
    lend = mut_lend T.R h;
    back = λ b o α γ A w p. mut_back T.R h b o α γ w p.1;
  }

  -- by `&`
  abbrev pub by_shr : (T : Held) (h : T.R.Denot) → Mode T.R h
  by_shr T h = record {
    Ref = Shr T.R h;
    Kept = ShrKept T.R h;
    Last = Unit {0};
    last = λ b o α γ w. ftrue;
    Also = λ A w. A;
    only = λ A w p. p;
    lend = shr_lend T.R h T.laws T.free;
    back = λ b o α γ A w p. shr_back T.R h b o α γ;
  }

-- A call while something is lent.  tok: the right to free it.  toks: the tokens of the caller's lifetimes.
-- zed, rest: what the allocator and the other arguments own.  last: what is said of the other arguments' last
-- values.  Answer: what is said of the number that is returned, and of these.
pub record Loan {M : Type 1} {𝓤 : Ura M} (𝓛 : Logic 𝓤) (R : RattleType) : Type 2 where
  pub h : R.Denot
  pub mode : Mode 𝓛 R h
  pub tok : Ty → Ptr → Fml
  pub toks : SProp 𝓤
  pub zed : Fml
  pub rest : Fml
  pub W : Type 0
  pub last : W → Fml
  pub Answer : ℤ → W → Type 0

module _ {M : Type 1} {𝓤 : Ura M} (𝓛 : Logic 𝓤) (R : RattleType) (A : Loan 𝓛 R) where
  open A use {h, mode, tok, toks, zed, rest, W, last, Answer}

  -- the values at which the other function ends
  abbrev Values : Type 0
  Values = Unit {0} × (mode.Last × W)

  module _ (b o α : ℕ) (γ : GName) where
    abbrev pub Asks : SProp 𝓤
    Asks = sep 𝓤 (sep 𝓤 (sep 𝓤 (alive 𝓛 α) toks) (sem 𝓛 (fsep zed (fsep (mode.Ref b o α γ) rest)))) (emp 𝓤)

    abbrev All : Values → Fml
    All ws = fsep ftrue (fsep (mode.last b o α γ ws.1.0) (last ws.1.1))

    abbrev Told : ℤ → Values → Type 0
    Told r ws = mode.Also (Answer r ws.1.1) ws.1.0

    abbrev pub Leaves : Val → SProp 𝓤
    Leaves = Gives 𝓛 i32 (sep 𝓤 (alive 𝓛 α) toks)
        (λ r. ex 𝓤 (λ (ws : Values). sep 𝓤 (sem 𝓛 (All ws)) (fact 𝓤 (Told r ws))))

  abbrev Ended : Ptr → ℤ → Unit {0} × (Unit {0} × W) → SProp 𝓤
  Ended p r ws = sep 𝓤 (sem 𝓛 (fsep ftrue (fsep ftrue (last ws.1.1))))
      (sep 𝓤 (sem 𝓛 (box_owns tok R p h)) (fact 𝓤 (Answer r ws.1.1)))

  abbrev pub Ends : Ptr → ℤ → SProp 𝓤
  Ends p r = ex 𝓤 (Ended p r)

  abbrev may_free : ℕ → ℕ → Fml
  may_free b o = tok (bare (lone R.mir)) (block_ptr b o)

  takes_back : (b o α : ℕ) (γ : GName) (v : Val)
      → ent 𝓤 (sep 𝓤 (Leaves b o α γ v) (sep 𝓤 (sem 𝓛 (mode.Kept b o α γ)) (sem 𝓛 (may_free b o))))
      (Gives 𝓛 i32 toks (Ends (block_ptr b o)) v)
  takes_back b o α γ v =
      qed 𝓛 (later (some (λ (r : ℤ). ((‵ (flft (α ∷ []) full_share) ⊛ raw toks) ⊛ ‵ (i32.own_val r (v ∷ [])))
      ⊛ some (λ (ws : Values). ‵ (All b o α γ ws) ⊛ raw (fact 𝓤 (Told b o α γ r ws)))))
      ∷ ‵ (mode.Kept b o α γ) ∷ ‵ (may_free b o) ∷ []) ∵
      updating ! $ await ! tt $ pick ! (λ r. split ! $ move ! (1 ∷ []) $ pick ! (λ ws. split ! $
      move ! (1 ∷ []) $ heard ! _ (λ told. let A : Type 0 = Answer r ws.1.1 in fsplit ! $ drop ! $ fsplit ! $
      -- [the last value; the others'; the token, the tokens and the answer; what was kept; the right to free]
      move ! (2 ∷ []) $ split ! $ split ! $ lft_end ! tt $ move ! (0 ∷ 5 ∷ 3 ∷ []) $
      use3 𝓛 (later (‵ (part_at R full_share h b o))) (mode.back b o α γ A ws.1.0 told) $ await ! tt $
      at_once ! $
      -- [what lies there; the tokens; the answer; the others' last values; the right to free]
      show ! (Returned 𝓛 i32 toks (Ends (block_ptr b o)) v) r $ move ! (1 ∷ 2 ∷ []) $ join ! $ frame ! $
      show ! (Ended (block_ptr b o) r) (tt, (tt, ws.1.1)) $ move ! (1 ∷ []) $ nothing ! $ fjoin ! $
      nothing ! $ fjoin ! $ frame ! $ says ! (mode.only A ws.1.0 told) $ fjoin ! $ done !)))

  -- vs: what f is called with, by the block of the handle.  Run: what the caller has to do, by the handle
  pub lends : (C : Calls 𝓤 𝓛.H) → FmC 𝓤 𝓛.H 𝓛.laws C → (f : Callee) (vs : ℕ → ℕ → List Val) (ptr : Fml)
      (Run : Ptr → SProp 𝓤)
      → ((b o : ℕ)
      → ent 𝓤 (𝓛.H.⇛ (C f (vs b o) (Gives 𝓛 i32 toks (Ends (block_ptr b o))))) (Run (block_ptr b o)))
      → ((b o α : ℕ) (γ : GName) → ent 𝓤 (Asks b o α γ) (C f (vs b o) (Leaves b o α γ)))
      → (p : Ptr)
      → ent 𝓤 (sep 𝓤 (sep 𝓤 toks (sem 𝓛 (fsep zed (fsep ptr rest)))) (sem 𝓛 (box_owns tok R p h))) (Run p)
  lends C fm f vs ptr Run forwards met p =
      qed 𝓛 ((raw toks ⊛ ‵ (fsep zed (fsep ptr rest))) ∷ ‵ (box_owns tok R p h) ∷ []) ∵
      split ! $ move ! (1 ∷ []) $ fsplit ! $ move ! (1 ∷ []) $ fsplit ! $ drop ! $ move ! (3 ∷ []) $
      in_a_block ! p (λ q. box_owns tok R q h) (fst∗ 𝓤 (never 𝓤) (sem 𝓛 (tok (bare (lone R.mir)) null_ptr)))
      (λ b o e. regoal ! (λ q. prop (Run q)) e refl $ suffices ! _ (forwards b o) $ updating ! $ fsplit ! $
      -- [what lies there; the right to free it; the others; the allocator; the tokens]
      lft_new ! tt (λ α. move ! (1 ∷ 0 ∷ []) $
      use2 𝓛 (later (some (λ (γ : GName). ‵ (mode.Ref b o α γ)
      ⊛ (‵ (mode.Kept b o α γ) ⊛ ‵ (flft (α ∷ []) full_share))))) (mode.lend b o α) $
      await ! tt $ pick ! (λ γ. split ! $ move ! (1 ∷ []) $ split ! $
      -- [what is kept; the token; the reference; the right to free; the others; the allocator; the tokens]
      move ! (2 ∷ 4 ∷ []) $ fjoin ! $ move ! (4 ∷ 0 ∷ []) $ fjoin ! $ move ! (2 ∷ 4 ∷ []) $ join ! $ join ! $
      nothing ! $ move ! (1 ∷ 0 ∷ []) $ join ! $
      use1 𝓛 (raw (C f (vs b o) (Leaves b o α γ))) (met b o α γ) $ at_once ! $
      by ! (fm f (vs b o) (Leaves b o α γ) (Gives 𝓛 i32 toks (Ends (block_ptr b o)))
      (sep 𝓤 (sem 𝓛 (mode.Kept b o α γ)) (sem 𝓛 (may_free b o))) (takes_back b o α γ)))))
