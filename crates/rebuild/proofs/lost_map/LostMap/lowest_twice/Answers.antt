use Rattle.std.proofs.Common.{◌≡◌, ℕ, false, get_or, ap, ◌∙◌, rules}
use Rattle.rebuild.specs.Taking.{address_in}
use Rattle.volume.proofs.Searching.{IsFirst, first_is_lowest}
use Rattle.rebuild.proofs.lost_map.LostMap.lowest_twice.Goals as goal

pub returns : goal.returns
returns c =
    let t = λ (k : ℕ). get_or c.args.self.now.twice k false in
    let found : IsFirst t 32 c.position.result = search rules in
    let named : c.map.result ≡ address_in c.args.self.now.cylinder c.position.result = search rules in
    named ∙ ap (address_in c.args.self.now.cylinder) (first_is_lowest t 32 c.position.result found)
