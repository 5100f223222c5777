-- What lies at handles.
use Rattle.std.proofs.Common.{◌≡◌, [], refl}
use Rattle.wax.proofs.ignoring.IgnoreList.TheLaws.{the_row_laws as ListLaws}
use Rattle.wax.specs.{contracts.ignoring.IgnoreList.the_row as List, GlobView.GlobView, Language.{Span, Tree}}
use Rattle.wax.specs.declared.ignoring.IgnoreList.{IgnoreList}
use Rattle.wax_c.proofs.handle.HeldGlob.TheLaws.{the_row_laws as GlobLaws}
use Rattle.wax_c.proofs.set_handle.HeldSet.TheLaws.{the_row_laws as SetLaws}
use Rattle.wax_c.specs.contracts.handle.HeldGlob.{the_row as Glob}
use Rattle.wax_c.specs.contracts.set_handle.HeldSet.{the_row as Set}
use denote.{Param.Laws.Laws, RattleType.RattleType}

-- R: its type, which no lifetime bounds.  Value: how contracts see it.  lies: what lies there then
pub record Held : Type 2 where
  pub R : RattleType
  pub laws : Laws R
  pub free : R.lives ≡ []
  pub Value : Type 0
  pub lies : Value → R.Denot

abbrev pub glob : Held
glob = record { R = Glob; laws = GlobLaws; free = refl; Value = GlobView; lies = λ g. record { matcher = g } }

abbrev pub set : Held
set = record { R = Set; laws = SetLaws; free = refl; Value = Tree Span; lies = λ g. record { matcher = g } }

abbrev pub list : Held
list = record { R = List; laws = ListLaws; free = refl; Value = IgnoreList; lies = λ g. g }
