-- The examples of specs/Examples, by computation. Assumes nothing.
use Rattle.model.specs.Kit.{refl}
use Rattle.model.specs.{Lists.keep, Lists.below, Lists.up_from, Examples.Each}
use Rattle.store.specs.{Store.keys_of, Store.action_verdict, Store.call_verdict, Store.store_after, Store.calls_of, Store.reply_to, Inner.Examples.tests_store, Inner.Claims.store_end}
use Rattle.store.specs.Inner.Claims.{replies_to, all_spare}

pub examples_store : Each tests_store
unfolding keep below up_from keys_of action_verdict call_verdict store_after reply_to store_end calls_of replies_to all_spare
examples_store = (refl, (refl, (refl, (refl, (refl, (refl, tt))))))
