-- The kinds of events: one row for each thing that a guest may do next.
use Rattle.dc_calls.specs.declared.call.Call.TheVariants as calls
use Rattle.dc_events.specs.declared.event.Kind.{Kind}
use Rattle.dc_events.specs.declared.event.Kind.TheVariants.{Internal, Clock, Random, Input, Receive, Visible, Send}
use Rattle.dc_events.specs.declared.event.Next.{Next}
use Rattle.dc_events.specs.declared.event.Next.TheVariants.{Retire, Trap, Call}

-- the kind of what a guest does next
abbrev pub kind_of : Next → Kind
kind_of Retire = Internal
kind_of (Trap cause) = Visible
kind_of (Call (calls.Exit code)) = Visible
kind_of (Call (calls.Output from count)) = Visible
kind_of (Call (calls.Input to room)) = Input
kind_of (Call calls.Clock) = Clock
kind_of (Call calls.Random) = Random
kind_of (Call (calls.Send q from count)) = Send
kind_of (Call (calls.Receive to room)) = Receive
kind_of (Call calls.Number) = Internal
kind_of (Call calls.BadArgument) = Internal
kind_of (Call calls.Unknown) = Internal

-- what comes of it depends on more than the guest
abbrev pub IsNondeterministic : Kind → Type 0
IsNondeterministic Clock = Unit {0}
IsNondeterministic Random = Unit {0}
IsNondeterministic Input = Unit {0}
IsNondeterministic Receive = Unit {0}
IsNondeterministic _ = ⊥
