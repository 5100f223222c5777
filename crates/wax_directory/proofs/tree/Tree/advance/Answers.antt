use Rattle.std.proofs.Common.{◌≡◌, ◌+◌, ◌∙◌, sym, ap, drop, Some, None}
use Rattle.std.specs.Option.{option_map}
use Rattle.wax_directory.specs.{Answers.listed_of, Nodes.{listed_item, items_shown}}
use Rattle.wax_directory.specs.{Shown.{first_item, rest_of}, TreeCursors.{last_parts, one_more}}
use Rattle.wax_directory.specs.Trees.{item_among}
use Rattle.wax_directory.proofs.Cursors.{given, ended, none_of}
use Rattle.wax_directory.proofs.tree.Tree.advance.Goals as goal

pub returns-in_default : goal.returns-in_default
returns-in_default c = λ cursors ls l held.
    let t = c.args.self.now in
    let p = last_parts t.working t.root cursors ls c.args.cursor.now l held in
    let h = p.1 in
    let r : (None ≡ first_item l) × (rest_of l ≡ items_shown (drop c.args.cursor.now.next h.0)) =
    ended h.0 c.args.cursor.now.next l h.2
    (sym (ap (option_map listed_of) (none_of c.in_ok-item.field-0 c.in_default.not-Some)) ∙
    c.in_ok-item.ensures.listed ∙ ap (λ o. option_map listed_item (item_among c.args.cursor.now.next o))
    h.1) in
    (r.0, one_more t.working t.root cursors ls c.args.cursor.now (rest_of l) p.0 (h.0, h.1, r.1))

pub returns : goal.returns
returns c = λ cursors ls l held.
    let t = c.args.self.now in
    let p = last_parts t.working t.root cursors ls c.args.cursor.now l held in
    let h = p.1 in
    let r : (Some (listed_of c.in-Some.item) ≡ first_item l) ×
    (rest_of l ≡ items_shown (drop (c.args.cursor.now.next + 1) h.0)) = given h.0 c.args.cursor.now.next
    (listed_of c.in-Some.item) l h.2
    (sym (ap (option_map listed_of) c.in-Some.is) ∙ c.in_ok-item.ensures.listed ∙ ap
    (λ o. option_map listed_item (item_among c.args.cursor.now.next o)) h.1) in (
      r.0,
      one_more t.working t.root cursors ls
          (record c.args.cursor.now { next = c.args.cursor.now.next + 1 }) (rest_of l) p.0 (h.0, h.1, r.1),
    )
