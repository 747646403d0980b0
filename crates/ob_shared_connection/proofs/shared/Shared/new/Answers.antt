use Rattle.std.proofs.Common.{◌≡◌, List, [], ◌∷◌, ◌++◌, sym, ap, ◌∙◌, subst}
use Rattle.atomic_table.specs.Table.{opening}
use Rattle.ob_shared_connection.specs.Ruled.{Ruled, first_view}
use Rattle.ob_shared_connection.specs.declared.carried.Carried.{Carried}
use Rattle.ob_shared_connection.proofs.Growing.{new_under}
use Rattle.ob_shared_connection.proofs.Seating.{at_first}
use Rattle.ob_shared_connection.proofs.shared.Shared.new.Goals as goal

pub new-requires : goal.new-requires
new-requires c =
    let connection = c.new-connection.result in
    let carried : Carried = record { connection = connection; cover = c.args.cover } in
    let slots : c.push.new.self.items ≡ carried ∷ [] =
    c.in_default.ensures.items ∙ ap (λ (before : List Carried). before ++ carried ∷ []) c.new-slots.ensures.items in
    subst (λ (slots : List Carried).
    Ruled (opening (0 ∷ 1 ∷ 0 ∷ 0 ∷ 0 ∷ 0 ∷ []) slots (first_view c.args.opened))) (sym slots)
    (at_first c.args.opened carried c.new-connection.ensures.settings c.new-connection.ensures.stands (record {
      budget_is = c.requires.budget;
      under = new_under connection c.look-look.result _ c.new-connection.ensures.stands c.look-look.ensures;
    }))
