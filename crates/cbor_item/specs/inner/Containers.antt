-- How many containers an item has.
use Rattle.std.specs.Prelude.{ℕ, suc, ◌+◌, List, map, sum}
use Rattle.cbor_item.specs.declared.item.Item.{Item, TheOpen.Item-F, TheFolds.fold-Item}

abbrev pub sum_pairs : List (ℕ × ℕ) → ℕ
sum_pairs ps = sum (map (λ p. p.0 + p.1) ps)

-- of one level, with each item inside already seen as how many it has
abbrev pub containers_step : Item-F ℕ → ℕ
containers_step (Item-F.Array v) = suc (sum v.items)
containers_step (Item-F.Map v) = suc (sum_pairs v.items)
containers_step (Item-F.Tag n b) = suc b.value
containers_step _ = 0

-- the item, if it is one, and those in it
abbrev pub containers : Item → ℕ
containers = fold-Item ℕ containers_step

abbrev pub containers_in : List Item → ℕ
containers_in is = sum (map containers is)

abbrev pub containers_in_pairs : List (Item × Item) → ℕ
containers_in_pairs ps = sum_pairs (map (λ p. (containers p.0, containers p.1)) ps)
