use Rattle.std.proofs.{Common.{◌∙◌, ap, subst, sym}, lemmas.Bool.false≢true}
use Rattle.wax_directory.specs.Names.{is_rooted}
use Rattle.wax_tree.specs.Prefix.{from_last}
use Rattle.wax_exclude.specs.Prefix.{HasEmptyName, SplitsInto}
use Rattle.wax_exclude.proofs.SplitPrefixes.{splits_into}
use Rattle.wax_exclude.proofs.prefixes.split_prefix.Goals as goal

pub returns : goal.returns
returns c =
    let prefix = c.args.prefix.now in
    let unbroken : ¬ (HasEmptyName prefix) = λ h. false≢true (sym c.if-has_empty_name.false
    ∙ c.has_empty_name.ensures.1 (subst HasEmptyName (sym c.as_bytes.ensures.value) h)) in (
      unbroken,
      subst (λ b. SplitsInto prefix b (from_last c.in_ok-names_from_last.field-0.items))
          (sym (c.begins_with_slash.ensures ∙ ap is_rooted c.as_bytes-2.ensures.value))
          (subst (SplitsInto prefix (is_rooted prefix)) (sym c.in_ok-names_from_last.ensures)
          (splits_into prefix unbroken)),
    )
