use Rattle.std.proofs.Common.{◌≡◌, ◌++◌, take}
use Rattle.std.specs.List.{flat_map}
use Rattle.sheets.specs.Gathered.{gathered}
use Rattle.html_pages.proofs.listing.push_items.Given as goal

abbrev pub invariant-items : goal.invariant-items
invariant-items g l = l.out ≡ l.fn.out ++ flat_map
    (g.L.Listing.parts l.listing (gathered l.library.records)) (take l.item-index l.items)
