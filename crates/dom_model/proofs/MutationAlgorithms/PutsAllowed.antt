-- Where an insertion's check passes, each node that comes in is a root that may be put: what a store asks of a put. DOM Standard, "Mutation algorithms".
use Rattle.std.proofs.Common.{◌≡◌, ℕ, ◌<◌, true, false, Option, Some, None, IfSome}
use Rattle.dom_model.specs.Definitions.{among, may_stand_in, Entry, Node, Forest, occurs, entry_in, ancestors, HasNode, Content, World, IsSound, check_insert, entry_has, nodes_of, freed, reference_child, IsPlaceable}
use Rattle.dom_model.specs.declared.Kind.{Kind}
use Rattle.dom_model.proofs.Forests.{Climbing.hits-not_among, Entries.HasNode-occurs}
use Rattle.dom_model.proofs.Soundness.{SoundInserting.IsReady, SoundInserting.freed_ready, SoundEditing.may_come_before}

-- what is asked of a root that is put under a parent
pub record MayBePut (f : Forest Content) (parent n : ℕ) : Type 0 where
  pub there : HasNode f n
  pub outside : among n (ancestors parent f) ≡ false
  pub kinds : IfSome (entry_in f parent) (λ p. IfSome (entry_in f n) (λ c. may_stand_in p.value.label.kind c.value.label.kind ≡ true))

pub may_be_put : (f : Forest Content) (parent n : ℕ) → IsPlaceable f parent n → MayBePut f parent n
may_be_put f parent n k =
    record {
      there = HasNode-occurs f n k.there;
      outside = hits-not_among n (ancestors parent f) k.outside;
      kinds = fit (entry_in f parent) (entry_in f n) k.fits;
    }
  where
    fit : (a b : Option (Entry (Node Content))) → entry_has (λ (k : Kind). entry_has (may_stand_in k) b) a ≡ true → IfSome a (λ p. IfSome b (λ c. may_stand_in p.value.label.kind c.value.label.kind ≡ true))
    fit None b h = tt
    fit (Some a) None h = tt
    fit (Some a) (Some b) h = h

-- once the nodes have left where they stood, each of them may be put
pub checked-ready : (w : World) → IsSound w → (parent n : ℕ) (child : Option ℕ) → 0 < occurs n w.forest → check_insert w.forest parent n child ≡ None →
    IsReady (freed n (nodes_of w n) w) parent (reference_child w n child) (nodes_of w n)
checked-ready w s parent n child h e = freed_ready n parent (reference_child w n child) w s (may_come_before w s parent n child h e)
