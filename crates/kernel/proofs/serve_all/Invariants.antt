-- `kernel::serve_all`: with the refusals so far, what is left to serve comes to the whole.
use Rattle.std.proofs.Common.{◌≡◌, ◌≤◌, drop}
use Rattle.kernel.specs.Kernel.{served_of}
use Rattle.kernel.proofs.Requests.{onward}
use Rattle.kernel.proofs.serve_all.Given as goal

abbrev pub invariant-loop-request : goal.invariant-loop-request
invariant-loop-request l = record {
  few : l.served.refused ≤ l.request-index;
  whole : onward l.served.refused (served_of l.served.machine (drop l.request-index l.requests)) ≡ served_of l.fn.start l.requests;
}
