-- The contracts of `put`, `fetch` and `remove`, as the checker states them, are what specs/Calls supposes, and ask for nothing. Assumes nothing.
use Rattle.model.specs.Kit.{◌≡◌, refl, SProp, emp}
use seplogic.Ra.Ura.{Ura}
use prog.Memory.{Memory}
use prog.Routine.{Routine}
use types.Logic.{Logic}
use contract.Lifetimes.{Lfts}
use contract.Monad.{Fun, fact}
use denote.Triple.Entry.{Args, Res}
use denote.Triple.Clauses.{AtExit}
use Rattle.store.specs.Calls.{CallPut, CallFetch, CallRemove}
use Rattle.store.specs.contracts.put as put
use Rattle.store.specs.contracts.fetch as fetch
use Rattle.store.specs.contracts.remove as remove

module _ {M : Type 1} {𝓤 : Ura M} (𝓛 : Logic 𝓤) (mem : Memory → SProp 𝓤) (of : Routine → Fun 𝓤) where
  pub put_tied : (κs : Lfts 2) (a : Args put.signature κs) (r : Res put.signature κs) (s : AtExit put.ended κs) →
      ((put.clauses 𝓛 mem of κs a).requires tt ≡ emp 𝓤) × ((put.clauses 𝓛 mem of κs a).ensures tt r s ≡ fact 𝓤 (CallPut a.0.now a.1.0 a.1.1.0 a.1.1.1.0.now r s.0.now))
  put_tied κs a r s = (refl, refl)

  pub fetch_tied : (κs : Lfts 2) (a : Args fetch.signature κs) (r : Res fetch.signature κs) (s : AtExit fetch.ended κs) →
      ((fetch.clauses 𝓛 mem of κs a).requires tt ≡ emp 𝓤) × ((fetch.clauses 𝓛 mem of κs a).ensures tt r s ≡ fact 𝓤
      (CallFetch a.0.now a.1.0 a.1.1.0 a.1.1.1.0.now r s.1.1.1.0.now))
  fetch_tied κs a r s = (refl, refl)

  pub remove_tied : (κs : Lfts 1) (a : Args remove.signature κs) (r : Res remove.signature κs) (s : AtExit remove.ended κs) →
      ((remove.clauses 𝓛 mem of κs a).requires tt ≡ emp 𝓤) × ((remove.clauses 𝓛 mem of κs a).ensures tt r s ≡ fact 𝓤 (CallRemove a.0.now a.1.0 a.1.1.0 r s.0.now))
  remove_tied κs a r s = (refl, refl)
