-- What is found from the end is the last.
use Rattle.std.proofs.Common.{◌≡◌, reverse, rules, tests, ◌∙◌}
use Rattle.std.specs.List.{find}
use Rattle.std.specs.Option.{option_map}
use Rattle.std.proofs.lemmas.Iterator.Search.{find_from_yields_List}
use Rattle.std.proofs.lemmas.Iterator.Adapters.{YieldsList-from_rev_slice}
use Rattle.filters.specs.Table.{bears}
use Rattle.filters.proofs.Names.{found_back}
use Rattle.filters.proofs.table.FilterTable.last_named.Goals as goal

pub returns : goal.returns
returns c =
    let block = c.args.self.now.block.now in
    let name = c.args.name.now in
    let es = c.args.self.now.entries.now in
    let found : option_map (λ e. e.now) c.find.result ≡ find (bears block name) (reverse es) =
    find_from_yields_List (bears block name) _ _ c.find.result c.find.ensures.ran (YieldsList-from_rev_slice es (cc)) (λ x b q k. search (rules, tests)) in
    c.copied.ensures ∙ found ∙ found_back block name es
