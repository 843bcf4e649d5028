-- What a plan of the code asks for.
use Rattle.std.specs.Option.{option_map}
use Rattle.command_line.specs.Plans.{Asked, ReplayAsked}
use Rattle.command_line.specs.Plans as meant
use Rattle.command_line.specs.Items.{Item}
use Rattle.command_line.specs.Items as named
use Rattle.command_line.specs.declared.item.ItemRef.{ItemRef}
use Rattle.command_line.specs.declared.item.ItemRef.TheVariants.{Events, Client, Closing}
use Rattle.command_line.specs.declared.plan.Plan.{Plan}
use Rattle.command_line.specs.declared.plan.Plan.TheVariants.{Ask, Replay, Load}
use Rattle.command_line.specs.declared.plan.ReplayPlan.{ReplayPlan}

-- the replay that a plan of the code asks for
abbrev pub replay_of : ReplayPlan → ReplayAsked
replay_of plan = record {
  sizes = plan.sizes;
  after = plan.after;
  target = plan.target.now;
  events = plan.events;
  clients = plan.clients;
  closing = option_map (λ name. name.now) plan.closing;
}

-- what a plan of the code asks for
abbrev pub asked_by : Plan → Asked
asked_by (Ask plan) = meant.Ask plan.name.now plan.a plan.b
asked_by (Replay plan) = meant.Replay (replay_of plan)
asked_by (Load events) = meant.Load events

-- the file that a borrowed one stands for
abbrev pub item_of : ItemRef → Item
item_of (Events name) = named.Events name.now
item_of (Client name) = named.Client name.now
item_of (Closing name) = named.Closing name.now
