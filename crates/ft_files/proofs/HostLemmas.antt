-- Databases of a host that are opened, or let go.
use Rattle.std.proofs.Common.{◌≡◌, ◌≢◌, ◌∙◌, ℕ, Bool, List, Result, Ok, Err, inl, inr, refl, sym, subst}
use Rattle.std.specs.Prelude.{IsTrue}
use Rattle.sqlite_disk.specs.declared.Disk as disk
use Rattle.sqlite_disk.specs.declared.Files.{Files}
use Rattle.sqlite_store.specs.declared.store.FileStore.{FileStore}
use Rattle.sqlite_wal.specs.Recovery.{Image}
use Rattle.sqlite.specs.declared.file.Leftover.{Leftover}
use Rattle.sqlite.specs.Closing.{files_left}
use Rattle.sqlite.specs.Files.{Finds, IsCleanLeft, IsOpened, LeavesFiles, file_state, image_of, over_files}
use Rattle.sqlite.specs.Held.{Held, IsNew}
use Rattle.sqlite.specs.State.{HasCleanDisk}
use Rattle.ft_store.specs.declared.fault.StoreFault.{StoreFault}
use Rattle.ft_store.specs.declared.fault.StoreFault.TheVariants as store
use Rattle.ft_opening.specs.Adopted.{IsNotTaken, IsTakenAsStore, LeavesMade}
use Rattle.ft_store.specs.Kept.{StoreState}
use Rattle.ft_opening.specs.Opened.{IsNewFrom}
use Rattle.ft_files.specs.declared.databases.OpenFault.{OpenFault}
use Rattle.ft_files.specs.declared.databases.OpenFault.TheVariants as fault
use Rattle.ft_files.specs.Hosts.{IsHeld, IsLeft, IsLetGo, Names, OpensBothIn, OpensPlainIn, OpensStoreIn, Stay, StayBut, files_in}
use Rattle.ft_files.specs.Opening.{open_fault_of}

-- one name after another
abbrev pub but_then : (tells : Bool) (name : List ℕ) (old mid new : Names) → (IsTrue tells → StayBut name old mid) → (IsTrue tells → StayBut name mid new) → IsTrue tells → StayBut name old new
but_then tells name old mid new first second t other apart = second t other apart ∙ first t other apart

module _ {D : Type 0} (g : disk.Ghosts D) (tells : Bool) where
  pub opens_plain : (name : List ℕ) (old new : Names) (files : Files D) (conn : Held (FileStore D g)) → (IsTrue tells → image_of g files ≡ old name) → IsNew conn → (HasCleanDisk (file_state conn) → IsOpened conn) →
      (HasCleanDisk (file_state conn) → Finds files conn) → (IsTrue tells → StayBut name old new) → OpensPlainIn g tells name old new (Ok conn)
  opens_plain name old new files conn held fresh opened found others = record {
    opened = (image_of g files, held, record { fresh = fresh; opened = opened; found = λ clean. let it = found clean in record { holds = it.holds; reads = it.reads } });
    refused = tt;
    others = others;
  }

  pub refuses_plain : (name : List ℕ) (old mid new : Names) (files now : Files D) (rest : Leftover D g) → (IsTrue tells → image_of g files ≡ old name) → (IsCleanLeft rest → LeavesFiles files rest) → (now.log, now.db) ≡ files_left rest →
      (IsTrue tells → new name ≡ image_of g now) → (IsTrue tells → StayBut name old mid) → (IsTrue tells → StayBut name mid new) → OpensPlainIn g tells name old new (Err fault.Database)
  refuses_plain name old mid new files now rest held unharmed are left first second = record {
    opened = tt;
    refused = (refl, λ t. inr (inl (record { files = files; held = held t; rest = rest; unharmed = unharmed; now = now; are = are; left = left t })));
    others = but_then tells name old mid new first second;
  }

  -- ---- the store

  pub refuses_store : (name : List ℕ) (old mid new : Names) (why : OpenFault) → why ≡ open_fault_of store.Refused → (IsTrue tells → Stay old mid) → (IsTrue tells → IsLetGo g (mid name) (new name)) → (IsTrue tells → StayBut name mid new) →
      OpensStoreIn g tells name old new (Err why)
  refuses_store name old mid new why is stay gone others = record {
    opened = tt;
    refused = (old name, (λ t. refl), (store.Refused, is, inl (inr refl)));
    let_go = λ t. subst (λ b. IsLetGo g b (new name)) (stay t name) (gone t);
    others = λ t other apart. others t other apart ∙ stay t other;
  }

  pub takes_store : (name : List ℕ) (old mid new : Names) (conn : Held (FileStore D g)) (made : StoreState (FileStore D g)) → (IsTrue tells → Stay old mid) → (image : Image) → IsHeld tells (mid name) image → IsNewFrom image conn →
      IsTakenAsStore over_files conn made.held → LeavesMade over_files conn made.held → made.rows_read ≡ 0 → (IsTrue tells → StayBut name mid new) → OpensStoreIn g tells name old new (Ok made)
  takes_store name old mid new conn made stay image held found taken left unread others = record {
    opened = (image, (λ t. held t ∙ stay t name), record { opened = record { conn = conn; fresh = found.fresh; opened = found.opened; found = found.found; taken = taken; left = left }; unread = unread });
    refused = tt;
    let_go = tt;
    others = λ t other apart. others t other apart ∙ stay t other;
  }

  -- what is closed under a name
  abbrev pub ClosesIn : List ℕ → Names → Held (FileStore D g) → Type 0
  ClosesIn name new conn = (left : Result (Files D) (Files D)) × IsLeft conn left × (new name ≡ image_of g (files_in left))

  pub takes_no_store : (name : List ℕ) (old mid last new : Names) (conn after : Held (FileStore D g)) (cause : StoreFault) (why : OpenFault) → why ≡ open_fault_of cause → (IsTrue tells → Stay old mid) → (image : Image) → IsHeld tells (mid name) image → IsNewFrom image conn →
      IsNotTaken over_files conn after cause → LeavesMade over_files conn after → (IsTrue tells → ClosesIn name new after) → (IsTrue tells → StayBut name mid last) → (IsTrue tells → StayBut name last new) → OpensStoreIn g tells name old new (Err why)
  takes_no_store name old mid last new conn after cause why is stay image held found refused left closes first second =
      let same : IsTrue tells → image ≡ old name = λ t. held t ∙ stay t name in
      record {
        opened = tt;
        refused = (image, same, (cause, is, inr (record { conn = conn; fresh = found.fresh; opened = found.opened; found = found.found; after = after; refused = refused; left = left })));
        let_go = λ t. let it = closes t in inr (inr (record { conn = conn; found = subst (λ i. IsNewFrom i conn) (same t) found; last = after; same = inr (cause, refused, left); result = it.0; closed = it.1; left = it.2 }));
        others = λ t other apart. second t other apart ∙ (first t other apart ∙ stay t other);
      }

  -- ---- both

  module _ (path beside : List ℕ) (are_apart : path ≢ beside) where
    swapped : beside ≢ path
    swapped is = are_apart (sym is)

    pub names_refuse : (old mid new : Names) (why : OpenFault) → why ≡ open_fault_of store.Refused → (IsTrue tells → Stay old mid) → (IsTrue tells → Stay mid new) → OpensBothIn g tells path beside old new (Err why)
    names_refuse old mid new why is first second = record {
      plain = tt;
      store = tt;
      refused = inr (old beside, (λ t. refl), (store.Refused, is, inl (inr refl)));
      plain_left = λ t. inl (second t path ∙ first t path);
      store_left = λ t. inl (second t beside ∙ first t beside);
      others = λ t other a b. second t other ∙ first t other;
    }

    pub both_open : (old mid last tables new : Names) (conn : Held (FileStore D g)) (made : StoreState (FileStore D g)) → (IsTrue tells → Stay old mid) → (IsTrue tells → Stay mid last) → OpensPlainIn g tells path last tables (Ok conn) →
        OpensStoreIn g tells beside tables new (Ok made) → OpensBothIn g tells path beside old new (Ok (conn, made))
    both_open old mid last tables new conn made first second it that = record {
      plain = let o = it.opened in (o.0, (λ t. o.1 t ∙ (second t path ∙ first t path)), o.2);
      store = let o = that.opened in (o.0, (λ t. o.1 t ∙ (it.others t beside swapped ∙ (second t beside ∙ first t beside))), o.2);
      refused = tt;
      plain_left = tt;
      store_left = tt;
      others = λ t other a b. that.others t other b ∙ (it.others t other a ∙ (second t other ∙ first t other));
    }

    pub store_refuses : (old mid last tables texts new : Names) (conn : Held (FileStore D g)) (why : OpenFault) → (IsTrue tells → Stay old mid) → (IsTrue tells → Stay mid last) → OpensPlainIn g tells path last tables (Ok conn) →
        OpensStoreIn g tells beside tables texts (Err why) → (IsTrue tells → ClosesIn path new conn) → (IsTrue tells → StayBut path texts new) → OpensBothIn g tells path beside old new (Err why)
    store_refuses old mid last tables texts new conn why first second it that closes others =
        let was : IsTrue tells → tables beside ≡ old beside = λ t. it.others t beside swapped ∙ (second t beside ∙ first t beside) in
        record {
          plain = tt;
          store = tt;
          refused = let r = that.refused in inr (r.0, (λ t. r.1 t ∙ was t), r.2);
          plain_left = λ t.
              let o = it.opened in
              let c = closes t in
              inr (inr (record { conn = conn; found = subst (λ i. IsNewFrom i conn) (o.1 t ∙ (second t path ∙ first t path)) o.2; last = conn; same = inl refl; result = c.0; closed = c.1; left = c.2 }));
          store_left = λ t. subst (λ a. IsLetGo g (old beside) a) (sym (others t beside swapped)) (subst (λ b. IsLetGo g b (texts beside)) (was t) (that.let_go t));
          others = λ t other a b. others t other a ∙ (that.others t other b ∙ (it.others t other a ∙ (second t other ∙ first t other)));
        }
