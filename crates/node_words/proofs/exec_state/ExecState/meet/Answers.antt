use Rattle.node_words.proofs.exec_state.ExecState.meet.Goals as goal

pub returns-in-Loads-clause-does : goal.returns-in-Loads-clause-does
returns-in-Loads-clause-does c = rw c.in-Loads.is (c.load_or_exit.ensures.does c.args.at)

pub returns-in-Stores-clause-does : goal.returns-in-Stores-clause-does
returns-in-Stores-clause-does c = rw c.in-Stores.is (c.store_or_exit.ensures.does c.args.at)

pub returns-in-Reserves-clause-does : goal.returns-in-Reserves-clause-does
returns-in-Reserves-clause-does c = rw c.in-Reserves.is (c.reserve_or_exit.ensures.does c.args.at)

pub returns-in-StoresIf-clause-does : goal.returns-in-StoresIf-clause-does
returns-in-StoresIf-clause-does c = rw c.in-StoresIf.is (c.store_if_or_exit.ensures.does c.args.at)

pub returns-in-Updates-clause-does : goal.returns-in-Updates-clause-does
returns-in-Updates-clause-does c = rw c.in-Updates.is (c.update_or_exit.ensures.does c.args.at)
