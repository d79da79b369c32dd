-- `twice::steps` meets its contract. The loop's invariant: where the walk stops from here is where it stops.
use Rattle.std.proofs.Common.{◌≡◌}
use Rattle.twice.specs.Engine.{steps, numbers_in}
use Rattle.twice.proofs.Walks.{walked}
use Rattle.twice.proofs.steps.Given as goal

abbrev pub invariant-loop-step : goal.invariant-loop-step
invariant-loop-step l = walked l.m l.places (numbers_in l.index) l.v l.h l.step ≡ steps l.m l.places (numbers_in l.index) l.v l.h
