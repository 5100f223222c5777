-- What a call takes beside the allocator and the handle.
use Rattle.std.proofs.Common.{List, [], ◌∷◌, ◌+◌, ℕ, suc}
use base.Fml.{Lft}
use contract.Lifetimes.{Lfts}
use mir.{Syntax.named, Val.Val}
use seplogic.Ra.Ura.{Ura}
use types.Logic.{Logic}
use denote.Laws.{Ises, Lawful, Lawfuls, Spells, Tells, Tellss, Is, valss}
use denote.Slice.{MutSlice, mut_slice_vals, mut_slice_Tells, mut_slice_Lawful, ShrSlice, shr_slice_vals}
use denote.{Slice.{shr_slice_Tells, shr_slice_Lawful}, Builtin.u8, Exit.yes}
use denote.{RattleType.{RattleType, Denots, Valss, flat}, Ref.{MutRef, mut_vals, mut_Tells, mut_Lawful}}
use denote.{Signature.{Slot, plain, types_at}, Triple.End.{Kepts, Outs, all}}

-- A text that is read, a list that is written, or a value that is written.
pub data Argument : Type 1 where
  text : Argument
  list_out : RattleType → Argument
  out : RattleType → Argument

-- each is a reference with a lifetime of its own, the j-th
abbrev pub type_of : ℕ → Lft → Argument → RattleType
type_of j κ text = ShrSlice (named j) κ u8
type_of j κ (list_out R) = MutSlice (named j) κ R
type_of j κ (out R) = MutRef (named j) κ R

abbrev pub vals_of : (j : ℕ) (κ : Lft) (a : Argument) → (type_of j κ a).Denot → List Val
vals_of j κ text = shr_slice_vals
vals_of j κ (list_out R) = mut_slice_vals
vals_of j κ (out R) = mut_vals

tells_of : (j : ℕ) (κ : Lft) (a : Argument) → Tells (type_of j κ a) (Is (type_of j κ a)) (vals_of j κ a)
tells_of j κ text = shr_slice_Tells (named j) κ u8
tells_of j κ (list_out R) = mut_slice_Tells (named j) κ R
tells_of j κ (out R) = mut_Tells (named j) κ R

lawful_of : {M : Type 1} {𝓤 : Ura M} (𝓛 : Logic 𝓤) (j : ℕ) (κ : Lft) (a : Argument) → Lawful 𝓛 (type_of j κ a)
lawful_of 𝓛 j κ text = shr_slice_Lawful 𝓛 (named j) κ u8
lawful_of 𝓛 j κ (list_out R) = mut_slice_Lawful 𝓛 (named j) κ R
lawful_of 𝓛 j κ (out R) = mut_Lawful 𝓛 (named j) κ R

abbrev pub count : List Argument → ℕ
count [] = 0
count (a ∷ xs) = suc (count xs)

-- the parameters from the j-th on, at the lifetimes that are left of all n
module _ (n : ℕ) where
  abbrev slots : (xs : List Argument) → ℕ → (Lfts n → Lfts (count xs)) → List (Slot n)
  slots [] j from = []
  slots (a ∷ xs) j from = plain (λ κs. type_of j (from κs).0 a) ∷ slots xs (j + 1) (λ κs. (from κs).1)

  module _ (κs : Lfts n) where
    abbrev spells : (xs : List Argument) (j : ℕ) (from : Lfts n → Lfts (count xs))
        → Spells (types_at (slots xs j from) κs)
    spells [] j from = tt
    spells (a ∷ xs) j from = (vals_of j (from κs).0 a, spells xs (j + 1) (λ κs. (from κs).1))

    pub tells : (xs : List Argument) (j : ℕ) (from : Lfts n → Lfts (count xs))
        → let Rs = types_at (slots xs j from) κs in Tellss Rs (Ises Rs) (spells xs j from)
    tells [] j from = tt
    tells (a ∷ xs) j from = (tells_of j (from κs).0 a, tells xs (j + 1) (λ κs. (from κs).1))

    pub lawfuls : {M : Type 1} {𝓤 : Ura M} (𝓛 : Logic 𝓤) (xs : List Argument) (j : ℕ)
        (from : Lfts n → Lfts (count xs))
        → Lawfuls 𝓛 (types_at (slots xs j from) κs)
    lawfuls 𝓛 [] j from = tt
    lawfuls 𝓛 (a ∷ xs) j from = (lawful_of 𝓛 j (from κs).0 a, lawfuls 𝓛 xs (j + 1) (λ κs. (from κs).1))

module _ (xs : List Argument) where
  abbrev pub Params : List (Slot (count xs))
  Params = slots (count xs) xs 0 (λ κs. κs)

  abbrev pub kept : Kepts Params
  kept = all yes Params

  module _ (κs : Lfts (count xs)) where
    abbrev pub Rows : List RattleType
    Rows = types_at Params κs

    abbrev pub spelling : Spells Rows
    spelling = spells (count xs) κs xs 0 (λ κs. κs)

    abbrev pub stored : Denots Rows → Valss Rows
    stored = valss Rows spelling

    abbrev pub values : Denots Rows → List Val
    values t = flat Rows (stored t)

    abbrev pub Exits : Type 0
    Exits = Outs κs Params kept
