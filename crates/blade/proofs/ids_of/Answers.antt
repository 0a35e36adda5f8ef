use Rattle.std.proofs.Common.{length, rules, refl}
use Rattle.std.proofs.lemmas.Iterator.{YieldsList, YieldsList-from_map}
use Rattle.std.proofs.lemmas.List.{length-map}
use Rattle.blade.proofs.Listing.{listed}
use Rattle.blade.proofs.ids_of.Goals as goal
use Rattle.takers.specs.declared.triangle.NumberedTriangle.{NumberedTriangle}
use Rattle.walks.proofs.Progress.{walk_yields}

pub returns : goal.returns
returns g c =
    let list = g.W.Walk.rest c.args.walk in
    let walk : YieldsList g.W.Iterator.next_gives (λ (t : NumberedTriangle). t) c.map.result.iter list =
    record {
      runs =
          rw c.map.ensures.source
          (walk_yields g.W.Iterator.next_gives g.W.Walk.rest (λ s. (g.met.W.Walk.gives s).2) list c.args.walk refl);
    } in
    listed (λ ids. ids.items) 24 (length list) c.from_iter.result c.from_iter.ensures.ran c.from_iter.ensures.full
    (YieldsList-from_map _ (λ t. t.id) walk c.map.ensures.closure (λ x r q k. search rules)) (length-map list (λ t. t.id))
