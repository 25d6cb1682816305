pub mod FreshMachines
