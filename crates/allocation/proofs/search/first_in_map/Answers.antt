use Rattle.std.proofs.Common.{◌≡◌, ℕ, ◌+◌, ◌*◌, true, false, get_or, ap, ◌∙◌, rules}
use Rattle.std.specs.Option.{option_map}
use Rattle.map.specs.declared.entry.Entry.TheVariants.{Map}
use Rattle.volume.proofs.Searching.{IsFirst, first_is_lowest}
use Rattle.allocation.proofs.search.first_in_map.Goals as goal

pub returns : goal.returns
returns g c =
    let fits = λ (s : ℕ). g.W.Wanted.passes c.args.wanted.now (32 * c.args.cylinder + s) (get_or c.args.entries.now s Map) in
    let found : IsFirst fits 32 c.position.result = search rules in
    let put : c.map.result ≡ option_map (λ s. 32 * c.args.cylinder + s) c.position.result = search rules in
    put ∙ ap (option_map (λ s. 32 * c.args.cylinder + s)) (first_is_lowest fits 32 c.position.result found)
