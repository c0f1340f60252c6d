-- What the calls of a driver leave as it was.
use Rattle.std.specs.Prelude.{◌≡◌}
use Rattle.copy_port.specs.State.{PortState, Rest}

-- no call changes what a driver is, or what it answers of a mode
pub record SameDriver (before after : Rest) : Type 0 where
  pub kind : after.kind ≡ before.kind
  pub limits : after.mode_limit ≡ before.mode_limit

-- only enabling and disabling change whether it is enabled, what it hooks, and into how many parts it may cut a rectangle
pub record SameMode (before after : Rest) : Type 0 where
  pub driver : SameDriver before after
  pub enabled : after.enabled ≡ before.enabled
  pub hooks : after.hooks ≡ before.hooks
  pub cuts : after.cuts ≡ before.cuts

-- only asking for a bitmap changes how many were asked for and made
pub record SameBitmaps (before after : Rest) : Type 0 where
  pub asked : after.asked ≡ before.asked
  pub made : after.made ≡ before.made

-- only drawing hooks, enabling and disabling change how many calls were offered and declined, and which classes may be
pub record SameOffers (before after : Rest) : Type 0 where
  pub offered : after.offered ≡ before.offered
  pub offered_bitmaps : after.offered_bitmaps ≡ before.offered_bitmaps
  pub declined : after.declined ≡ before.declined
  pub declines : after.declines ≡ before.declines

-- a call that was refused changes nothing but the count of faults
pub record IsUnchanged (before after : PortState) : Type 0 where
  pub shown : after.shown ≡ before.shown
  pub written : after.written ≡ before.written
  pub rest : after.rest ≡ before.rest
