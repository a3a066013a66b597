-- What a pile means, by the layer that it has.
--   layered        a network under a layer, or alone
--   pile_meaning   what a pile means, by what the network in it means
--   pile_within    it keeps the limits of every network
--   pile_kept      what calls leave alone in a pile: its layer, and what they leave alone in the network below
--   pile_keeps     any number of calls leave that alone
use Rattle.std.specs.Prelude.{min, Some, None, Option}
use Rattle.network.specs.Nets.{Net, Within}
use Rattle.network.specs.Keeping.{Keeps}
use Rattle.van_limit.specs.Limited.{limited, limited_within}
use Rattle.yard.specs.Yards.{with_yard, yard_within}
use Rattle.piles.specs.declared.Layer.{Layer}
use Rattle.piles.specs.declared.Layer.TheVariants.{Limit, Yard}
use Rattle.piles.specs.declared.Pile.{Pile}
use Rattle.piles.specs.declared.Pile.TheVariants.{Bare, Limited, WithYard}

-- a number above its limit counts as the limit
abbrev pub layered : Option Layer → Net → Net
layered None n = n
layered (Some (Limit bikes)) n = limited (min bikes 500) n
layered (Some (Yard cents)) n = with_yard (min cents 10000) n

abbrev pub pile_meaning : {N : Type 0} → (N → Net) → Pile N → Net
pile_meaning m (Bare below) = m below
pile_meaning m (Limited v) = limited v.limit (m v.below)
pile_meaning m (WithYard y) = with_yard y.charge (m y.below)

pub pile_within : {N : Type 0} (m : N → Net) (within : (s : N) → Within (m s)) (p : Pile N) → Within (pile_meaning m p)
pile_within m within (Bare below) = within below
pile_within m within (Limited v) = limited_within v.limit (m v.below) (within v.below)
pile_within m within (WithYard y) = yard_within y.charge (m y.below) (within y.below)

abbrev pub pile_kept : {N : Type 0} → (N → N → Type 0) → Pile N → Pile N → Type 0
pile_kept kept (Bare s) (Bare t) = kept s t
pile_kept kept (Limited s) (Limited t) = kept s.below t.below
pile_kept kept (WithYard s) (WithYard t) = kept s.below t.below
pile_kept kept _ _ = ⊥

same : {N : Type 0} {kept : N → N → Type 0} → Keeps kept → (p : Pile N) → pile_kept kept p p
same k (Bare s) = k.same s
same k (Limited s) = k.same s.below
same k (WithYard s) = k.same s.below

more : {N : Type 0} {kept : N → N → Type 0} → Keeps kept → (p q r : Pile N) → pile_kept kept p q → pile_kept kept q r → pile_kept kept p r
more k (Bare s) (Bare t) (Bare u) a b = k.more s t u a b
more k (Bare s) (Bare t) (Limited u) a b = b
more k (Bare s) (Bare t) (WithYard u) a b = b
more k (Bare s) (Limited t) r a b = absurd a
more k (Bare s) (WithYard t) r a b = absurd a
more k (Limited s) (Bare t) r a b = absurd a
more k (Limited s) (Limited t) (Bare u) a b = b
more k (Limited s) (Limited t) (Limited u) a b = k.more s.below t.below u.below a b
more k (Limited s) (Limited t) (WithYard u) a b = b
more k (Limited s) (WithYard t) r a b = absurd a
more k (WithYard s) (Bare t) r a b = absurd a
more k (WithYard s) (Limited t) r a b = absurd a
more k (WithYard s) (WithYard t) (Bare u) a b = b
more k (WithYard s) (WithYard t) (Limited u) a b = b
more k (WithYard s) (WithYard t) (WithYard u) a b = k.more s.below t.below u.below a b

pub pile_keeps : {N : Type 0} {kept : N → N → Type 0} → Keeps kept → Keeps (pile_kept kept)
pile_keeps k = record { same = same k; more = more k }
