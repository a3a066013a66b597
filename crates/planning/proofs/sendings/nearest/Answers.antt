use Rattle.std.proofs.Common.{◌≡◌, sym, ap, ◌∙◌, subst, rules}
use borrow.Author.Tests.{tests}
use Rattle.std.specs.Option.{option_map}
use Rattle.std.proofs.lemmas.Iterator.{YieldsList-from_slice, YieldsList-from_zip}
use Rattle.std.proofs.lemmas.Iterator.Consumers.{YieldsList-at, YieldsList-from_enumerate, YieldsList-from_filter_map}
use Rattle.planning.specs.Rounds.{waiting_of, lower_of, nearest_of, FindsNearest}
use Rattle.planning.proofs.Choosing.{reduced, finds_nearest}
use Rattle.planning.proofs.sendings.nearest.Goals as goal

pub returns : goal.returns
returns c =
    let is : c.map.result ≡ nearest_of c.args.labels.now c.args.draft.now.left.now c.args.marks.now =
    let e : c.map.result ≡ option_map (λ a. a.station) c.reduce.result = search rules in
    e ∙ ap (option_map (λ a. a.station))
    (reduced _ lower_of _ (λ x y r q k. search (rules, tests)) _ c.filter_map.result c.reduce.result c.reduce.ensures.ran
    (YieldsList-from_filter_map _ (λ w. waiting_of w.0 w.1.0.0 w.1.0.1 w.1.1)
    (YieldsList-at c.filter_map.ensures.source (YieldsList-from_enumerate
    (YieldsList-at c.enumerate.ensures.source (YieldsList-from_zip (YieldsList-at c.zip-2.ensures.first (YieldsList-from_zip (YieldsList-from_slice c.args.labels.now cc) (YieldsList-from_slice c.args.draft.now.left.now cc))) (YieldsList-from_slice c.args.marks.now cc)))
    c.enumerate.ensures.count))
    c.filter_map.ensures.closure (λ x r q k. search (rules, tests)))) in
    record { nearest = subst (FindsNearest c.args.labels.now c.args.draft.now.left.now c.args.marks.now) (sym is) (finds_nearest c.args.labels.now c.args.draft.now.left.now c.args.marks.now); value = is }
