-- The seven holders.
use Rattle.std.proofs.Common.{refl, []}
use Rattle.std.specs.Prelude.{codes}
use mir.Syntax.{ty_named, tcons, tnil}
use Rattle.ob_connection.specs.contracts.connection.Connection.{the_row as connection_row}
use Rattle.ob_covered.specs.contracts.budgeted.Budgeted.{the_row as covered_row}
use Rattle.ob_covered.specs.contracts.cover.Cover.{the_row as cover_row}
use Rattle.ob_lifecycle.specs.contracts.managed.ManagedConnection.{the_row as inner_row}
use Rattle.ob_shared_connection.specs.contracts.handle.Handle.{the_row as sharer_row}
use Rattle.ob_shared_connection.specs.contracts.transport.Transport.{the_row as sender_row}
use Rattle.ob_c.specs.Held.{bytes_row}
use Rattle.ob_c.specs.contracts.block.Block as block
use Rattle.ob_c.specs.contracts.budget.Budget as budget
use Rattle.ob_c.specs.contracts.budgeted.Budgeted as budgeted
use Rattle.ob_c.specs.contracts.handle.Handle as handle
use Rattle.ob_c.specs.contracts.managed.Managed as managed
use Rattle.ob_c.specs.contracts.shared.Shared as shared
use Rattle.ob_c.specs.contracts.transport.Transport as transport
use Rattle.ob_c.proofs.Holder.{Holder}

abbrev pub handles : Holder
handles = record {
  name = handle.struct.name;
  inner = connection_row;
  written = ty_named (codes "ob_connection::connection::Connection", []) tnil;
  one = tt;
  D = handle.the_row.Denot;
  codes = handle.the_codes;
  at = λ d. d.at;
  value = λ d. d.value;
  make = λ p x. record { at = p; value = x };
  just = (λ d. refl, λ v g. refl, λ p x. refl);
}

abbrev pub blocks : Holder
blocks = record {
  name = block.struct.name;
  inner = bytes_row;
  written = ty_named (codes "bytes::shared::Bytes", []) (tcons (ty_named (codes "std_heap::Global", []) tnil) tnil);
  one = tt;
  D = block.the_row.Denot;
  codes = block.the_codes;
  at = λ d. d.at;
  value = λ d. d.value;
  make = λ p x. record { at = p; value = x };
  just = (λ d. refl, λ v g. refl, λ p x. refl);
}

abbrev pub sharers : Holder
sharers = record {
  name = shared.struct.name;
  inner = sharer_row;
  written = ty_named (codes "ob_shared_connection::handle::Handle", []) tnil;
  one = tt;
  D = shared.the_row.Denot;
  codes = shared.the_codes;
  at = λ d. d.at;
  value = λ d. d.value;
  make = λ p x. record { at = p; value = x };
  just = (λ d. refl, λ v g. refl, λ p x. refl);
}

abbrev pub senders : Holder
senders = record {
  name = transport.struct.name;
  inner = sender_row;
  written = ty_named (codes "ob_shared_connection::transport::Transport", []) tnil;
  one = tt;
  D = transport.the_row.Denot;
  codes = transport.the_codes;
  at = λ d. d.at;
  value = λ d. d.value;
  make = λ p x. record { at = p; value = x };
  just = (λ d. refl, λ v g. refl, λ p x. refl);
}

abbrev pub managers : Holder
managers = record {
  name = managed.struct.name;
  inner = inner_row;
  written = ty_named (codes "ob_lifecycle::managed::ManagedConnection", []) tnil;
  one = tt;
  D = managed.the_row.Denot;
  codes = managed.the_codes;
  at = λ d. d.at;
  value = λ d. d.value;
  make = λ p x. record { at = p; value = x };
  just = (λ d. refl, λ v g. refl, λ p x. refl);
}

abbrev pub budgets : Holder
budgets = record {
  name = budget.struct.name;
  inner = cover_row;
  written = ty_named (codes "ob_covered::cover::Cover", []) tnil;
  one = tt;
  D = budget.the_row.Denot;
  codes = budget.the_codes;
  at = λ d. d.at;
  value = λ d. d.value;
  make = λ p x. record { at = p; value = x };
  just = (λ d. refl, λ v g. refl, λ p x. refl);
}

abbrev pub covereds : Holder
covereds = record {
  name = budgeted.struct.name;
  inner = covered_row;
  written = ty_named (codes "ob_covered::budgeted::Budgeted", []) tnil;
  one = tt;
  D = budgeted.the_row.Denot;
  codes = budgeted.the_codes;
  at = λ d. d.at;
  value = λ d. d.value;
  make = λ p x. record { at = p; value = x };
  just = (λ d. refl, λ v g. refl, λ p x. refl);
}
