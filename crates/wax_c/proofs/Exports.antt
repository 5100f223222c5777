-- What all exported calls have in common: the allocator, and the forms of their code and of their contracts.
use Rattle.std.proofs.Common.{List, [], ◌∷◌, ℕ}
use base.Logic.{SProp, ent, ex, sep, wand, via, comm∗, mono_l, wand_i, apply∗}
use contract.Lifetimes.{Lfts, Shares}
use mir.{Syntax.{Body, Fn, Local, Ty, local, value_local}, Val.Val}
use seplogic.Ra.Ura.{Ura}
use types.Logic.{Logic, sem}
use denote.{Laws.{Ises, Are, Spells, valss, Tellss}, Signature.{Signature, Slot, plain, types_at}}
use denote.{Triple.Entry.{Args, Vals, on_entry}, RattleType.RattleType, Steps.said, Triple.Clauses.Ended}
use denote.Triple.End.{Kepts}
use Rattle.std.proofs.alloc.Global.TheLaws as heap_laws
use Rattle.std.specs.contracts.alloc.Global as heap

-- the allocator, as the logic and as the machine has it
abbrev pub Z : RattleType
Z = heap.the_row

abbrev pub told : Z.Denot → List Val
told x = heap_laws.the_told.val x ∷ []

abbrev pub locals : List Ty → List Local
locals [] = []
locals (τ ∷ τs) = local τ value_local ∷ locals τs

-- a function of so many lifetimes and parameters, whose locals have these types
abbrev pub function : ℕ → ℕ → List Ty → Body → Fn
function n count τs body = record {
  lifetimes = n;
  outlives = [];
  ty_params = [];
  givens = 0;
  params = count;
  locals = locals τs;
  body = body;
}

-- a contract of so many lifetimes and these parameters, with a result of this type
abbrev pub ended : (n : ℕ) (ss : List (Slot n)) → Kepts ss → RattleType → Ended
ended n ss kept R = record {
  signature = record { lifetimes = n; outlives = []; params = ss; result = plain (λ _. R) };
  kept = kept;
}

-- a value of the type R is returned, of which Y holds
module _ {M : Type 1} {𝓤 : Ura M} (𝓛 : Logic 𝓤) (R : RattleType) (toks : SProp 𝓤) (Y : R.Denot → SProp 𝓤)
  where
    abbrev pub Returned : Val → R.Denot → SProp 𝓤
    Returned v r = sep 𝓤 (sep 𝓤 toks (sem 𝓛 (R.own_val r (v ∷ [])))) (Y r)

    abbrev pub Gives : Val → SProp 𝓤
    Gives v = 𝓛.H.⇛ (ex 𝓤 (Returned v))

-- at entry the parameters' machine values are written out, beside P, which the contract requires
module _ {M : Type 1} {𝓤 : Ura M} (𝓛 : Logic 𝓤) (S : Signature) (κs : Lfts S.lifetimes)
    (qs : Shares S.lifetimes)
    (sp : Spells (types_at S.params κs)) where
  pub spelled : let Rs = types_at S.params κs in Tellss Rs (Ises Rs) sp
      → (a : Args S κs) (P : SProp 𝓤) (Q : Vals S κs → SProp 𝓤) (vss : Vals S κs) → let us = valss Rs sp a in
      (Are Rs (Ises Rs) a us → ent 𝓤 (sep 𝓤 (on_entry 𝓛 S κs qs a us) P) (Q us))
      → ent 𝓤 (sep 𝓤 (on_entry 𝓛 S κs qs a vss) P) (Q vss)
  spelled tl a P Q vss k =
      via 𝓤 (sep 𝓤 (wand 𝓤 P (Q vss)) P)
      (mono_l 𝓤 P (said 𝓛 S κs qs sp tl a (λ us. wand 𝓤 P (Q us)) vss (λ are. wand_i 𝓤 _ P _ (k are))))
      (via 𝓤 (sep 𝓤 P (wand 𝓤 P (Q vss))) (comm∗ 𝓤 (wand 𝓤 P (Q vss)) P) (apply∗ 𝓤 P (Q vss)))
