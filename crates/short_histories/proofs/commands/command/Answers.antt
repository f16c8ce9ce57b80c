-- `short_histories::commands::command` meets its contract: each arm is its kind's part of the list.
use native.Mathlib.Omega.{arith}
use mathlib.Core.Path.{◌∙◌}
use Rattle.short_histories.proofs.Numbered.{take_at, split_at_lem, merge_at, give_at, revoke_at, sweep_at, collect_at, map_at, unmap_at, zero_at, past_at}
use Rattle.short_histories.proofs.commands.command.Goals as goal

pub returns-in-0-to-3 : goal.returns-in-0-to-3
returns-in-0-to-3 c = c.take.ensures ∙ take_at c.args.k (omega (arith, c.in-0-to-3))

pub returns-in-4-to-11 : goal.returns-in-4-to-11
returns-in-4-to-11 c = c.split.ensures ∙ split_at_lem c.args.k (omega (arith, c.in-4-to-11)) (omega (arith, c.in-4-to-11))

pub returns-in-12-to-15 : goal.returns-in-12-to-15
returns-in-12-to-15 c = c.merge.ensures ∙ merge_at c.args.k (omega (arith, c.in-12-to-15)) (omega (arith, c.in-12-to-15))

pub returns-in-16-to-23 : goal.returns-in-16-to-23
returns-in-16-to-23 c = c.give.ensures ∙ give_at c.args.k (omega (arith, c.in-16-to-23)) (omega (arith, c.in-16-to-23))

pub returns-in-24-to-27 : goal.returns-in-24-to-27
returns-in-24-to-27 c = c.revoke.ensures ∙ revoke_at c.args.k (omega (arith, c.in-24-to-27)) (omega (arith, c.in-24-to-27))

pub returns-in-28-to-31 : goal.returns-in-28-to-31
returns-in-28-to-31 c = c.sweep.ensures ∙ sweep_at c.args.k (omega (arith, c.in-28-to-31)) (omega (arith, c.in-28-to-31))

pub returns-in-32-to-33 : goal.returns-in-32-to-33
returns-in-32-to-33 c = collect_at c.args.k (omega (arith, c.in-32-to-33)) (omega (arith, c.in-32-to-33))

pub returns-in-34-to-35 : goal.returns-in-34-to-35
returns-in-34-to-35 c = c.map.ensures ∙ map_at c.args.k (omega (arith, c.in-34-to-35)) (omega (arith, c.in-34-to-35))

pub returns-in-36-to-37 : goal.returns-in-36-to-37
returns-in-36-to-37 c = c.unmap.ensures ∙ unmap_at c.args.k (omega (arith, c.in-36-to-37)) (omega (arith, c.in-36-to-37))

pub returns-in-38-to-39 : goal.returns-in-38-to-39
returns-in-38-to-39 c = c.zero.ensures ∙ zero_at c.args.k (omega (arith, c.in-38-to-39)) (omega (arith, c.in-38-to-39))

pub returns-in_default : goal.returns-in_default
returns-in_default c = past_at c.args.k (omega (arith, c.in_default))
